use Rattle.std.proofs.Common.{◌≡◌, ◌++◌, drop, map, string_bytes}
use Rattle.pyver_tool.specs.RequirementFiles.{word_file}
use Rattle.pyver_findings.specs.Views.{named_file_of}
use Rattle.pyver_tool.proofs.requirement_files.push_words.Given as goal

abbrev pub invariant-loop-word : goal.invariant-loop-word
invariant-loop-word l = map named_file_of l.names.items ++ map word_file (map string_bytes (drop l.word-index l.words)) ≡ map named_file_of l.initial.names.items ++ map word_file (map string_bytes l.words)
