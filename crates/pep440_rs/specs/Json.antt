-- The JSON form of versions, specifiers and lists, which is a string, and what their parsers return.
use Rattle.std.specs.Prelude.{◌≡◌, ℕ, List, Option, Some, Result, Ok, Err, IsSomeAnd, codes}
use Rattle.serde_json.specs.Find.{as_str}
use Rattle.serde_json.specs.View.{view}
use Rattle.serde_json.specs.declared.value.Value.{Value}
use Rattle.pep440_rs.specs.declared.json.error.JsonError.{JsonError}
use Rattle.pep440_rs.specs.declared.json.error.JsonError.TheVariants as json

-- the bytes of a JSON string; None for any other value
abbrev pub text_of : Value → Option (List ℕ)
text_of value = as_str (view value)

-- the value is the JSON string of these bytes
abbrev pub IsString : Value → List ℕ → Type 0
IsString value text = text_of value ≡ Some text

-- what holds of the parser's error, if the value is a string and the parser rejects it
abbrev pub IfParserError : {E : Type 0} → JsonError E → (E → Type 0) → Type 0
IfParserError json.NotAString P = Unit {0}
IfParserError (json.Text e) P = P e
IfParserError json.OutOfMemory P = Unit {0}

-- the result of a JSON string is that of its parser, unless an allocation failed; `refusal` is the reason of an error, or None if
-- an allocation failed, which is never inside the parser's error
abbrev pub ReturnsFromJson : {X E F : Type 0} → (E → Option F) → Result X (JsonError E) → Result X F → Type 0
ReturnsFromJson refusal (Ok x) outcome = outcome ≡ Ok x
ReturnsFromJson refusal (Err json.NotAString) outcome = ⊥
ReturnsFromJson refusal (Err (json.Text e)) outcome = IsSomeAnd (refusal e) (λ f. outcome ≡ Err f)
ReturnsFromJson refusal (Err json.OutOfMemory) outcome = Unit {0}

-- the clone of an error reports the same; of a parser's error inside it, the same holds
abbrev pub IsJsonClone : {E : Type 0} → (E → E → Type 0) → JsonError E → JsonError E → Type 0
IsJsonClone clone json.NotAString copy = copy ≡ json.NotAString
IsJsonClone {E} clone (json.Text e) copy = (inner : E) × (copy ≡ json.Text inner) × clone e inner
IsJsonClone clone json.OutOfMemory copy = copy ≡ json.OutOfMemory

-- the message of an error; of an error that holds a parser's error, that one's message
abbrev pub json_text_of : {E : Type 0} → (E → Option (List ℕ)) → JsonError E → Option (List ℕ)
json_text_of inner json.NotAString = Some (codes "expected a JSON string")
json_text_of inner (json.Text e) = inner e
json_text_of inner json.OutOfMemory = Some (codes "out of memory")
