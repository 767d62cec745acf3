-- The range of what texts give agrees with matching.
use Rattle.std.proofs.Common.{◌≡◌, List, Some}
use Rattle.std.specs.List.{All}
use Rattle.pep440_rs.specs.Agreement.{Agrees, HasOperand, IsCandidate, HoldsAllMatches, HoldsOnlyMatches, ListAgrees}
use Rattle.pep440_rs.specs.Bounds.{Segments, list_range, range_of}
use Rattle.pep440_rs.specs.Specifiers.SpecifierGrammar.{IsDenotedSpecifier}
use Rattle.pep440_rs.specs.Specifiers.{Spec}
use Rattle.pep440_rs.proofs.Agreement.ListRanges.{list_agrees}
use Rattle.pep440_rs.proofs.Agreement.Operands.{text_gives}
use Rattle.pep440_rs.proofs.Agreement.Single.{agrees, holds_all_matches, holds_only_matches}

pub has_operand : (s : Spec) → IsDenotedSpecifier s → HasOperand s
has_operand s (text, d) = text_gives text s d

pub text_agrees : (s : Spec) (range : Segments) → range_of s.operator s.version ≡ Some range → IsDenotedSpecifier s → Agrees IsCandidate s range
text_agrees s range is given = agrees s range is (has_operand s given)

pub list_text_agrees : (members : List Spec) (range : Segments) → list_range range_of members ≡ Some range → All IsDenotedSpecifier members → ListAgrees IsCandidate members range
list_text_agrees members range is given = list_agrees members range is (λ k m lt. has_operand _ (given k m lt))

pub text_holds_only_matches : (s : Spec) (range : Segments) → range_of s.operator s.version ≡ Some range → IsDenotedSpecifier s → HoldsOnlyMatches s range
text_holds_only_matches s range is given = holds_only_matches s range is (has_operand s given)

pub text_holds_all_matches : (s : Spec) (range : Segments) → range_of s.operator s.version ≡ Some range → IsDenotedSpecifier s → HoldsAllMatches s range
text_holds_all_matches s range is given = holds_all_matches s range is (has_operand s given)
