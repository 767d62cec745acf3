-- `newest SPECS`: the line of the newest version that the list allows.
use Rattle.std.specs.Prelude.{◌≡◌, ℕ, List, [], ◌++◌, Bool, IsTrue, codes, Option, Some, None, if◌then◌else◌}
use Rattle.std.specs.Option.{option_map}
use Rattle.std.specs.Ordering.{on}
use Rattle.pep440_pick.specs.Newest.{Greatest, preference}
use Rattle.pep440_rs.specs.LiteralMatching.{list_matches_literally}
use Rattle.pep440_rs.specs.Matching.{any_prerelease}
use Rattle.pep440_rs.specs.Specifiers.{Spec}
use Rattle.pyver_commands.specs.Matches.{DenotesList, ListFails, ReadsSpecifiers, SpecifiersReading, list_fault, takes_prereleases}
use Rattle.cli_io.specs.Runs.{Outcome}
use Rattle.pyver_commands.specs.Sources.{Input}
use Rattle.pyver_commands.specs.Sources.VersionLines.{InputParts, OfVersions, VersionLine}
use Rattle.pyver_commands.specs.declared.newest.NewestOptions.{NewestOptions}
use Rattle.pyver_commands.specs.declared.newest.NewestRule.{NewestRule}
use Rattle.pyver_commands.specs.declared.prerelease_rule.Prereleases.{Prereleases}
use Rattle.pyver_commands.specs.declared.prerelease_rule.Prereleases.TheVariants as prereleases

-- the line itself, whose version the list matches
abbrev pub IsMatchedLine : List Spec → VersionLine → VersionLine → Type 0
IsMatchedLine list line x = (line ≡ x) × IsTrue (list_matches_literally list x.version)

-- the newest of the lines that the list matches, and of equal ones the first; None where it matches none. A pre-release that is not taken
-- is the newest only where no final release is matched
pub record NewestLine (takes : Bool) (list : List Spec) (lines : List VersionLine) (newest : Option VersionLine) : Type 0 where
  pub greatest : Option (ℕ × VersionLine)
  pub is : Greatest (IsMatchedLine list) (on (λ (x : VersionLine). x.version) (preference takes)) lines greatest
  pub line : newest ≡ option_map (λ (p : ℕ × VersionLine). p.1) greatest

abbrev pub without_prerelease : Option VersionLine → Option VersionLine
without_prerelease None = None
without_prerelease (Some x) = if any_prerelease x.version then None else Some x

-- the newest line, unless it is a pre-release and an option says that none is taken
abbrev pub taken : Prereleases → Option VersionLine → Option VersionLine
taken prereleases.Listed newest = newest
taken prereleases.Always newest = newest
taken prereleases.Never newest = without_prerelease newest

-- the line as it was written, or nothing and status 1; and the messages of invalid lines
abbrev pub newest_outcome : List ℕ → Option VersionLine → Outcome
newest_outcome messages None = record { output = []; errors = messages; status = 1 }
newest_outcome messages (Some x) = record { output = x.text ++ codes "\n"; errors = messages; status = 0 }

-- what is written of lines that were read; the header and invalid lines are left out
abbrev pub FindsNewest : NewestRule → InputParts → Outcome → Type 0
FindsNewest rule parts o =
    (newest : Option VersionLine) × NewestLine (takes_prereleases rule.prereleases rule.list) rule.list parts.versions newest
    × (o ≡ newest_outcome parts.messages (taken rule.prereleases newest))

-- the rule of the options and the list
abbrev pub newest_rule : NewestOptions → List Spec → NewestRule
newest_rule options list = record { prereleases = options.prereleases; lines = options.lines; list = list }

-- what is written of the lines by a valid list, or the error of an invalid one
abbrev pub FindsNewestBy : List ℕ → NewestOptions → List ℕ → SpecifiersReading → Input → Outcome → Type 0
FindsNewestBy usage options specifiers (DenotesList list) input o = OfVersions options.lines (FindsNewest (newest_rule options list)) input o
FindsNewestBy usage options specifiers (ListFails message) input o = o ≡ list_fault usage specifiers message

-- what is written of the lines of the sources: SPECS is parsed, and then the lines
abbrev pub FindsNewestLine : List ℕ → NewestOptions → List ℕ → Input → Outcome → Type 0
FindsNewestLine usage options specifiers input o = (x : SpecifiersReading) × ReadsSpecifiers specifiers x × FindsNewestBy usage options specifiers x input o
