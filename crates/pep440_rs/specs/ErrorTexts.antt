-- The messages of the errors. Nothing is stated of an operator that is not ASCII; no parser of specifiers returns one.
use Rattle.std.specs.Prelude.{ℕ, List, [], ◌∷◌, ◌++◌, Option, Some, None, codes, if◌then◌else◌}
use Rattle.std.specs.Fmt.{debug_escape}
use Rattle.std.specs.Char.{is_ascii}
use Rattle.std.specs.List.{list_all, flat_map}
use Rattle.pep440_version.specs.ErrorTexts.{pattern_rejection_text, pattern_error_text}
use Rattle.pep440_version.specs.Print.{dotted, print_segment}
use Rattle.pep440_rs.specs.Build.{BuildRejection, OperatorLocalCombo, OperatorWithStar, CompatibleRelease}
use Rattle.pep440_rs.specs.Operators.{operator_text}
use Rattle.pep440_rs.specs.Specifiers.SpecifierGrammar.{SpecifierRejection, MissingOperator, InvalidOperator, MissingVersion, InvalidVersion, InvalidSpecifier, InvalidTrailing}
use Rattle.pep440_rs.specs.declared.range.error.RangeError.{RangeError}
use Rattle.pep440_rs.specs.declared.range.error.RangeError.TheVariants as range

-- the message of why an operator and a version make no specifier
abbrev pub build_text : BuildRejection → List ℕ
build_text (OperatorLocalCombo o r) = codes "Operator " ++ (operator_text o ++ (codes " is incompatible with versions containing non-empty local segments (`+"
    ++ (dotted print_segment r.local ++ codes "`)")))
build_text (OperatorWithStar o) = codes "Operator " ++ (operator_text o ++ codes " cannot be used with a wildcard version specifier")
build_text CompatibleRelease = codes "The ~= operator requires at least two segments in the release version"

-- the message of a reason; a string that is no operator is quoted as by Rust's Debug
abbrev pub specifier_rejection_text : SpecifierRejection → List ℕ
specifier_rejection_text MissingOperator = codes "Unexpected end of version specifier, expected operator"
specifier_rejection_text (InvalidOperator got) = codes "no such comparison operator " ++ ((34 ∷ (flat_map (debug_escape 34) got ++ 34 ∷ [])) ++ codes ", must be one of ~= == != <= >= < > ===")
specifier_rejection_text MissingVersion = codes "Unexpected end of version specifier, expected version"
specifier_rejection_text (InvalidVersion f) = pattern_rejection_text f
specifier_rejection_text (InvalidSpecifier b) = build_text b
specifier_rejection_text (InvalidTrailing rest) = codes "Trailing `" ++ (rest ++ codes "` is not allowed")

-- the message of an operator's error, which quotes the string that is no operator; without one, out of memory
abbrev pub operator_error_text : Option (List ℕ) → Option (List ℕ)
operator_error_text None = Some (codes "out of memory")
operator_error_text (Some got) = if list_all is_ascii got then Some (specifier_rejection_text (InvalidOperator got)) else None

-- the message of an error by its reason; without one, out of memory
abbrev pub specifier_error_text : Option SpecifierRejection → Option (List ℕ)
specifier_error_text None = Some (codes "out of memory")
specifier_error_text (Some (InvalidOperator got)) = operator_error_text (Some got)
specifier_error_text (Some (InvalidVersion f)) = pattern_error_text (Some f)
specifier_error_text (Some f) = Some (specifier_rejection_text f)

-- why a conversion into a range fails
abbrev pub range_error_text : RangeError → List ℕ
range_error_text range.NumberAtMax = codes "a number of 18446744073709551615 cannot be raised"
range_error_text range.OutOfMemory = codes "out of memory"
