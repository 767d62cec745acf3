use Rattle.std.proofs.Common.{◌≡◌, ◌∙◌, ◌++◌, Bool, true, false, not, ap, append_assoc, arith, length, refl, sym, true≢false}
use Rattle.std.proofs.lemmas.List.{length-append}
use Rattle.std.specs.Bool.{beq}
use Rattle.std.specs.Prelude.{drop, if◌then◌else◌}
use Rattle.pep440_compiled.proofs.Comparing.{zeros_length}
use Rattle.pep440_compiled.proofs.list_members.match_star.Goals as goal
use Rattle.pep440_compiled.specs.KeyParts.{ending_zeros}
use Rattle.pep440_compiled.specs.Version.{zero_bytes}
use Rattle.pep440_keys.specs.SortKeys.{key_bytes}
use Rattle.pep440_rs.specs.Matching.{has_prefix}
use Rattle.pep440_version.specs.Key.Trim.{trim}

-- whether a star form matches, by whether it excludes what begins as its version
abbrev met : Bool → Bool → Bool
met is_exclusion found = if is_exclusion then not found else found

unmet : (is_exclusion found : Bool) → beq found is_exclusion ≡ true → met is_exclusion found ≡ false
unmet true true e = refl
unmet true false e = absurd (true≢false (sym e))
unmet false true e = absurd (true≢false (sym e))
unmet false false e = refl

met_else : (is_exclusion found : Bool) → beq found is_exclusion ≡ false → met is_exclusion found ≡ true
met_else true true e = absurd (true≢false e)
met_else true false e = refl
met_else false true e = refl
met_else false false e = absurd (true≢false e)

pub returns-then-begins_with_release-is_exclusion-clause-found : goal.returns-then-begins_with_release-is_exclusion-clause-found
returns-then-begins_with_release-is_exclusion-clause-found c s v rest p k o e =
    let split = e ∙ append_assoc (key_bytes s) (zero_bytes s.release) rest in
    let found = c.in_ok-release.ensures.found s (zero_bytes s.release ++ rest) p split in
    let after = c.skip_zeros-rest.ensures.found (drop (length (trim s.release)) s.release) rest o found.2 in
    let none : ending_zeros s.release ≡ 0 = omega (arith, c.if-rest-after.false, ap length after, ap length found.2, length-append (zero_bytes s.release) rest, zeros_length s.release) in
    let is = c.begins_with_release.ensures s v p k.parsed none k.key found.1 in
    unmet c.args.is_exclusion (has_prefix s s.release v) (ap (λ b. beq b c.args.is_exclusion) (sym is) ∙ c.if-begins_with_release-is_exclusion.true)

pub returns-clause-found : goal.returns-clause-found
returns-clause-found c s v rest p k o e =
    let split = e ∙ append_assoc (key_bytes s) (zero_bytes s.release) rest in
    let found = c.in_ok-release.ensures.found s (zero_bytes s.release ++ rest) p split in
    let after = c.skip_zeros-rest.ensures.found (drop (length (trim s.release)) s.release) rest o found.2 in
    let none : ending_zeros s.release ≡ 0 = omega (arith, c.if-rest-after.false, ap length after, ap length found.2, length-append (zero_bytes s.release) rest, zeros_length s.release) in
    let is = c.begins_with_release.ensures s v p k.parsed none k.key found.1 in
    (met_else c.args.is_exclusion (has_prefix s s.release v) (ap (λ b. beq b c.args.is_exclusion) (sym is) ∙ c.if-begins_with_release-is_exclusion.false), after)
