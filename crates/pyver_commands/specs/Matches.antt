-- `match SPECS V..`: which of the versions the list allows.
use Rattle.std.specs.Prelude.{◌≡◌, ℕ, List, [], ◌++◌, Bool, codes, drop, if◌then◌else◌, true, false}
use Rattle.std.specs.List.{AllZip}
use Rattle.pep440_rs.specs.Lists.ListErrorTexts.{list_rejection_text}
use Rattle.pep440_rs.specs.Lists.ListGrammar.{DerivesList, PieceRejection, RejectsList}
use Rattle.pep440_rs.specs.LiteralMatching.{list_allows_literally}
use Rattle.pep440_rs.specs.Specifiers.{Spec}
use Rattle.cli_io.specs.Escapes.{escaped, escaped_lines}
use Rattle.cli_io.specs.Runs.{Outcome}
use Rattle.pyver_commands.specs.Outcomes.{fault, in_turn, message_outcome}
use Rattle.pyver_commands.specs.Readings.{Denotes, Fails, Reading, Reads}
use Rattle.pyver_commands.specs.declared.allowed.MatchOptions.{MatchOptions}
use Rattle.pep440_rs.specs.Prereleases.{requests_prereleases}
use Rattle.pyver_commands.specs.declared.prerelease_rule.Prereleases.{Prereleases}
use Rattle.pyver_commands.specs.declared.prerelease_rule.Prereleases.TheVariants as prereleases

-- as the options say; without such an option, if the list asks for them
abbrev pub takes_prereleases : Prereleases → List Spec → Bool
takes_prereleases prereleases.Listed list = requests_prereleases list
takes_prereleases prereleases.Always list = true
takes_prereleases prereleases.Never list = false

-- a list of specifiers, or the message of an invalid list
pub data SpecifiersReading : Type 0 where
  DenotesList : List Spec → SpecifiersReading
  ListFails : List ℕ → SpecifiersReading

-- the string denotes this list, or is invalid with this message
abbrev pub ReadsSpecifiers : List ℕ → SpecifiersReading → Type 0
ReadsSpecifiers text (DenotesList list) = DerivesList text list
ReadsSpecifiers text (ListFails message) = (f : PieceRejection) × RejectsList text f × (message ≡ list_rejection_text f text)

-- the message of a word that is no list, which has line ends of its own: of the list's error all but its first words, which are
-- `Failed to parse version: `
abbrev pub list_message : List ℕ → List ℕ → List ℕ
list_message word message = codes "pyver: '" ++ (escaped word ++ (codes "' is not a list of specifiers: " ++ escaped_lines (drop 25 message)))

-- the message of where the list stands, by the usage line of a command with one list
abbrev pub place_message : List ℕ → List ℕ
place_message usage = codes "pyver: SPECS comes first: " ++ (usage ++ codes "\n")

-- the outcome of an invalid list, in a command with this usage line
abbrev pub list_fault : List ℕ → List ℕ → List ℕ → Outcome
list_fault usage word message = message_outcome (list_message word message ++ place_message usage)

-- `yes` or `no`, a tab, and the version as it was written
abbrev pub verdict_line : Bool → List ℕ → List ℕ
verdict_line allowed word = (if allowed then codes "yes\t" else codes "no\t") ++ (escaped word ++ codes "\n")

-- the outcome of a valid version: its line, unless quiet, and status 0 or 1
abbrev pub verdict : Bool → Bool → List ℕ → Outcome
verdict quiet allowed word = record { output = if quiet then [] else verdict_line allowed word; errors = []; status = if allowed then 0 else 1 }

-- the outcome of a word: its verdict, or its error
abbrev pub word_outcome : Bool → Bool → List Spec → List ℕ → Reading → Outcome
word_outcome quiet takes list word (Denotes r) = verdict quiet (list_allows_literally takes list r) word
word_outcome quiet takes list word (Fails reason) = fault word reason

-- the outcome of one word
abbrev pub MatchesWord : Bool → Bool → List Spec → List ℕ → Outcome → Type 0
MatchesWord quiet takes list word o = (x : Reading) × Reads word x × (o ≡ word_outcome quiet takes list word x)

-- the outcome of the words, one after another
abbrev pub MatchesWords : Bool → Bool → List Spec → List (List ℕ) → Outcome → Type 0
MatchesWords quiet takes list words o = (os : List Outcome) × AllZip (MatchesWord quiet takes list) words os × (o ≡ in_turn os)

-- the outcome of the words by a valid list, or the error of an invalid one
abbrev pub MatchesBy : List ℕ → MatchOptions → List ℕ → SpecifiersReading → List (List ℕ) → Outcome → Type 0
MatchesBy usage options specifiers (DenotesList list) words o = MatchesWords options.quiet (takes_prereleases options.prereleases list) list words o
MatchesBy usage options specifiers (ListFails message) words o = o ≡ list_fault usage specifiers message

-- the outcome of `match`: SPECS is parsed, and then the words
abbrev pub Matches : List ℕ → MatchOptions → List ℕ → List (List ℕ) → Outcome → Type 0
Matches usage options specifiers words o = (x : SpecifiersReading) × ReadsSpecifiers specifiers x × MatchesBy usage options specifiers x words o
