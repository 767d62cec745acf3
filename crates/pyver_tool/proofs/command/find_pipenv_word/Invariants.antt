use Rattle.std.proofs.Common.{◌≡◌, drop, map, string_bytes}
use Rattle.std.specs.List.{find}
use Rattle.pyver_documents.specs.DocumentKinds.{is_pipenv_path}
use Rattle.pyver_tool.proofs.command.find_pipenv_word.Given as goal

abbrev pub invariant-loop-word : goal.invariant-loop-word
invariant-loop-word l = find is_pipenv_path (map string_bytes l.words) ≡ find is_pipenv_path (map string_bytes (drop l.word-index l.words))
