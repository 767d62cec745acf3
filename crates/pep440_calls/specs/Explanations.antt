-- Why bytes are not what they were to be, and why an operator and a version make no specifier.
use Rattle.std.specs.Prelude.{◌≡◌, ◌⊎◌, ℕ, List, [], Bool, codes, Result, Ok, Err, ◌≤◌}
use Rattle.std.specs.Str.{IsUtf8}
use Rattle.pep440_rs.specs.Build.{BuildRejection, built_pattern}
use Rattle.pep440_rs.specs.ErrorTexts.{build_text}
use Rattle.pep440_rs.specs.Operators.{operator_rank}
use Rattle.pep440_rs.specs.Specifiers.{Spec}
use Rattle.pep440_rs.specs.declared.specifier.operator.Operator.{Operator}
use Rattle.pep440_version.specs.ErrorTexts.{pattern_rejection_text}
use Rattle.pep440_version.specs.Record.{Record}
use Rattle.pep440_version.specs.Rejections.{PatternRejection, RejectsPattern}
use Rattle.pep440_calls.specs.CallerBytes.{BytesDenote, BytesDenoteList, RejectsBytes, ExplainsBytes, ExplainsListBytes}
use Rattle.pep440_calls.specs.CallResults.{StringDenotesPattern, BytesDenoteSpecifier, ExplainsSpecifier}
use Rattle.pep440_calls.specs.Statuses.{WritesBytes}
use Rattle.pep440_calls.specs.declared.messages.BytesKind.{BytesKind}
use Rattle.pep440_calls.specs.declared.messages.BytesKind.TheVariants as kind

-- ---- patterns

-- the words say why the bytes are no pattern
abbrev pub ExplainsPattern : List ℕ → List ℕ → Type 0
ExplainsPattern bytes words = ((¬ IsUtf8 bytes) × (words ≡ codes "not UTF-8")) ⊎ (IsUtf8 bytes × (f : PatternRejection) × RejectsPattern bytes f × (words ≡ pattern_rejection_text f))

-- ---- operators with versions

-- no operator has this number
abbrev pub IsNoOperator : ℕ → Type 0
IsNoOperator number = (o : Operator) → operator_rank o ≡ number → ⊥

-- what the rules of specifiers give for the operator of this number and the version, with `.*` after it or without
abbrev pub CombinesNumbered : ℕ → List ℕ → Bool → Result Spec BuildRejection → Type 0
CombinesNumbered number text star combined = (o : Operator) × (r : Record) × (operator_rank o ≡ number) × BytesDenote text r × (combined ≡ built_pattern o r star)

-- an operator has the number and the version is invalid: the number is tested first
abbrev pub RejectsNumbered : ℕ → List ℕ → Type 0
RejectsNumbered number text = ((o : Operator) × (operator_rank o ≡ number)) × RejectsBytes text

-- why they are no specifier; nothing where they are one
abbrev pub IsBuildError : ℕ → List ℕ → Bool → List ℕ → Type 0
IsBuildError number text star bytes =
    ((s : Spec) × CombinesNumbered number text star (Ok s) × (bytes ≡ []))
    ⊎ ((why : BuildRejection) × CombinesNumbered number text star (Err why) × (bytes ≡ build_text why))

-- the number that C has for what bytes are to be
abbrev pub bytes_kind_number : BytesKind → ℕ
bytes_kind_number kind.Version = 0
bytes_kind_number kind.Pattern = 1
bytes_kind_number kind.Specifier = 2
bytes_kind_number kind.List = 3

-- the message of why the bytes are not of this kind; no bytes if they are
abbrev pub IsErrorOf : BytesKind → List ℕ → List ℕ → Type 0
IsErrorOf kind.Version text bytes = ((r : Record) × BytesDenote text r × (bytes ≡ [])) ⊎ ExplainsBytes text bytes
IsErrorOf kind.Pattern text bytes = ((r : Record) × (star : Bool) × StringDenotesPattern text r star × (bytes ≡ [])) ⊎ ExplainsPattern text bytes
IsErrorOf kind.Specifier text bytes = ((s : Spec) × BytesDenoteSpecifier text s × (bytes ≡ [])) ⊎ ExplainsSpecifier text bytes
IsErrorOf kind.List text bytes = ((list : List Spec) × BytesDenoteList text list × (bytes ≡ [])) ⊎ ExplainsListBytes text bytes

-- this is written if a kind has the number; otherwise the status is 9, and nothing is written
abbrev pub ErrorResult : ℕ → List ℕ → List ℕ → List ℕ → ℕ → ℕ → ℕ → Type 0
ErrorResult number text old new old_written written status =
    ((k : BytesKind) × (bytes_kind_number k ≡ number) × WritesBytes ⊥ ⊥ ⊥ (IsErrorOf k text) old new old_written written status)
    ⊎ ((4 ≤ number) × (status ≡ 9) × (new ≡ old) × (written ≡ old_written))
