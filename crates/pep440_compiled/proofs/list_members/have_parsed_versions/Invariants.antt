use Rattle.std.proofs.Common.{take}
use Rattle.std.specs.List.{All}
use Rattle.pep440_compiled.proofs.list_members.have_parsed_versions.Given as goal
use Rattle.pep440_compiled.specs.Lists.{IsParsedMember}

abbrev pub invariant-loop-member : goal.invariant-loop-member
invariant-loop-member l = All IsParsedMember (take l.member-index l.members)
