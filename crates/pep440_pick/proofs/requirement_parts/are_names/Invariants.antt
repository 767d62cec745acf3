use Rattle.std.proofs.Common.{◌≡◌, length, map}
use Rattle.std.specs.List.{list_all}
use Rattle.pep440_rs.specs.Lists.ListGrammar.{pieces}
use Rattle.pep440_pick.specs.Names.{is_name}
use Rattle.pep440_rs.specs.Blanks.{trim_blanks}
use denote.Shadow.{shadow}
use denote.Text.{Utf8}
use Rattle.pep440_pick.proofs.requirement_parts.are_names.Given as goal

abbrev pub invariant-loop-part : goal.invariant-loop-part
invariant-loop-part l = record {
  utf8 : shadow (Utf8 l.rest);
  same : list_all is_name (map trim_blanks (pieces l.inside)) ≡ list_all is_name (map trim_blanks (pieces l.rest));
}

abbrev pub decreases-loop-part : goal.decreases-loop-part
decreases-loop-part l = length l.rest
