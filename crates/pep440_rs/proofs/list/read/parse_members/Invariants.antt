use Rattle.std.proofs.Common.{◌≡◌, ◌-◌, length}
use Rattle.pep440_version.specs.Reading.{EndsWith}
use Rattle.pep440_rs.specs.Lists.ListGrammar.{pieces}
use Rattle.pep440_rs.specs.Lists.ListReading.{read_pieces}
use Rattle.pep440_rs.proofs.Reading.Pieces.{with_members}
use denote.Shadow.{shadow}
use denote.Text.{Utf8}
use Rattle.pep440_rs.proofs.list.read.parse_members.Given as goal

abbrev pub invariant-loop-members : goal.invariant-loop-members
invariant-loop-members l = shadow (Utf8 l.rest) × EndsWith l.text l.rest
    × (read_pieces 0 (pieces l.text) ≡ with_members l.members.items (read_pieces (length l.text - length l.rest) (pieces l.rest)))

abbrev pub decreases-loop-members : goal.decreases-loop-members
decreases-loop-members l = length l.rest
