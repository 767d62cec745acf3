use Rattle.std.proofs.Common.{length, map, string_bytes}
use Rattle.pep440_pick.proofs.Extras.{AreCopied}
use denote.Shadow.{shadow}
use denote.Text.{Utf8}
use Rattle.pep440_pick.proofs.requirement_parts.copy_extras.Given as goal

abbrev pub invariant-loop-part : goal.invariant-loop-part
invariant-loop-part l = record {
  utf8 : shadow (Utf8 l.rest);
  copied : AreCopied (map string_bytes l.extras.items) l.rest l.inside;
}

abbrev pub decreases-loop-part : goal.decreases-loop-part
decreases-loop-part l = length l.rest
