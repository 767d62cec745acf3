-- A text in its characters, as the longest run at its front is read.
use Rattle.std.proofs.Common.{◌≡◌, ◌<◌, ◌≤◌, ◌+◌, ◌-◌, ◌∙◌, ℕ, List, [], ◌∷◌, ◌++◌, Bool, true, false, get_or, length, take, drop, refl, sym, ap, subst, arith, length-drop}
use Rattle.std.proofs.lemmas.Bool.Decides.{nat_tests}
use Rattle.std.proofs.lemmas.List.{append_cancel_right, drop_at, drop_more, length-append, nil_from_length, take-append-drop, take_at}
use Rattle.std.proofs.lemmas.Str.{IsUtf8-drop, chars-nil, chars_past_char, encode_ascii, encodes-append, encodes-chars}
use Rattle.std.specs.Char.{encode_utf8, is_ascii}
use Rattle.std.specs.Str.{IsCharBoundary, IsUtf8, chars, encode_utf8_all}
use Rattle.pep440_version.specs.Reading.{EndsWith, lead, past}
use Rattle.pep440_version.proofs.Rejections.LongerTexts.{past_one}
use Rattle.pep440_version.proofs.Reading.Endings.{ends_then}
use Rattle.pep440_version.proofs.Reading.ReadIsDerived.{split}

past_here : (test : ℕ → Bool) (c : ℕ) (cs : List ℕ) → test c ≡ false → past test (c ∷ cs) ≡ c ∷ cs
past_here test c cs e = rw e refl

-- the run ends before this character
pub run_stops : (test : ℕ → Bool) (text rest next : List ℕ) (c : ℕ) → IsUtf8 rest → rest ≡ encode_utf8 c ++ next → test c ≡ false → past test (chars text) ≡ past test (chars rest) → chars rest ≡ past test (chars text)
run_stops test text rest next c utf8 step fails before =
    let here = chars_past_char rest next c utf8 step in
    here ∙ sym (past_here test c (chars next) fails) ∙ sym (ap (past test) here) ∙ sym before

-- the run goes past this character
pub run_goes_on : (test : ℕ → Bool) (text rest next : List ℕ) (c : ℕ) → IsUtf8 rest → rest ≡ encode_utf8 c ++ next → test c ≡ true → past test (chars text) ≡ past test (chars rest) → past test (chars text) ≡ past test (chars next)
run_goes_on test text rest next c utf8 step passes before =
    before ∙ ap (past test) (chars_past_char rest next c utf8 step) ∙ past_one test c (chars next) passes

-- the run ends with the text
pub run_ends : (test : ℕ → Bool) (text rest : List ℕ) → length rest ≡ 0 → past test (chars text) ≡ past test (chars rest) → chars rest ≡ past test (chars text)
run_ends test text rest none before =
    let empty = ap chars (nil_from_length rest none) ∙ chars-nil in
    empty ∙ sym (ap (past test) empty) ∙ sym before

pub ends_further : (text rest next prefix : List ℕ) → EndsWith text rest → rest ≡ prefix ++ next → EndsWith text next
ends_further text rest next prefix h step = ends_then text rest next h (prefix, step)

-- the bytes of the run and those of what follows it
pub run_bytes : (test : ℕ → Bool) (text rest : List ℕ) → IsUtf8 text → IsUtf8 rest → EndsWith text rest → chars rest ≡ past test (chars text)
    → (take (length text - length rest) text ≡ encode_utf8_all (lead test (chars text))) × (drop (length text - length rest) text ≡ rest)
run_bytes test text rest utf8 utf8_rest h e =
    let long = ap length h.1 ∙ length-append h.0 rest in
    let at : length h.0 ≡ length text - length rest = omega (arith, long) in
    let behind : encode_utf8_all (past test (chars text)) ≡ rest = ap encode_utf8_all (sym e) ∙ encodes-chars rest utf8_rest in
    let whole : text ≡ encode_utf8_all (lead test (chars text)) ++ rest =
    sym (encodes-chars text utf8) ∙ ap encode_utf8_all (split test (chars text)) ∙ encodes-append (lead test (chars text)) (past test (chars text))
    ∙ ap (λ t. encode_utf8_all (lead test (chars text)) ++ t) behind in
    let prefix = append_cancel_right h.0 (encode_utf8_all (lead test (chars text))) rest (sym h.1 ∙ whole) in
    (ap (take (length text - length rest)) h.1 ∙ take_at h.0 rest _ at ∙ prefix, ap (drop (length text - length rest)) h.1 ∙ drop_at h.0 rest _ at)

pub rest_bytes : (test : ℕ → Bool) (text rest : List ℕ) → IsUtf8 rest → chars rest ≡ past test (chars text) → rest ≡ encode_utf8_all (past test (chars text))
rest_bytes test text rest utf8 e = sym (encodes-chars rest utf8) ∙ ap encode_utf8_all e

-- ---- byte by byte

-- the text from an ASCII byte on is that byte and the text behind it
pub ascii_step : (text : List ℕ) (at : ℕ) → at < length text → get_or text at 0 < 128 → drop at text ≡ encode_utf8 (get_or text at 0) ++ drop (at + 1) text
ascii_step text at inside ascii = drop_more text at 0 inside ∙ ap (λ t. t ++ drop (at + 1) text) (sym (encode_ascii (get_or text at 0) ascii))

-- the run goes past this byte
pub byte_passes : (test : ℕ → Bool) (text : List ℕ) (at : ℕ) → IsUtf8 text → IsCharBoundary text at → at < length text → get_or text at 0 < 128 → test (get_or text at 0) ≡ true
    → past test (chars text) ≡ past test (chars (drop at text)) → past test (chars text) ≡ past test (chars (drop (at + 1) text))
byte_passes test text at utf8 boundary inside ascii passes before =
    run_goes_on test text (drop at text) (drop (at + 1) text) (get_or text at 0) (IsUtf8-drop text at utf8 boundary) (ascii_step text at inside ascii) passes before

-- the run ends before this byte
pub byte_stops : (test : ℕ → Bool) (text : List ℕ) (at : ℕ) → IsUtf8 text → IsCharBoundary text at → at < length text → get_or text at 0 < 128 → test (get_or text at 0) ≡ false
    → past test (chars text) ≡ past test (chars (drop at text)) → chars (drop at text) ≡ past test (chars text)
byte_stops test text at utf8 boundary inside ascii fails before =
    run_stops test text (drop at text) (drop (at + 1) text) (get_or text at 0) (IsUtf8-drop text at utf8 boundary) (ascii_step text at inside ascii) fails before

pub ends_at : (text rest : List ℕ) (at : ℕ) → rest ≡ drop at text → EndsWith text rest
ends_at text rest at e = (take at text, sym (take-append-drop at text) ∙ ap (λ t. take at text ++ t) (sym e))

-- a byte of the text that was tested
pub ascii_at : (text bytes : List ℕ) (at : ℕ) → bytes ≡ text → is_ascii (get_or bytes at 0) ≡ true → get_or text at 0 < 128
ascii_at text bytes at e ascii = subst (λ t. get_or t at 0 < 128) e (below (get_or bytes at 0) ascii)
  where
    below : (b : ℕ) → is_ascii b ≡ true → b < 128
    below b e = grind (arith, nat_tests)

pub no_run_left : (test : ℕ → Bool) (text : List ℕ) (at : ℕ) → length text ≤ at → past test (chars text) ≡ past test (chars (drop at text)) → chars [] ≡ past test (chars text)
no_run_left test text at all before =
    let none : length (drop at text) ≡ 0 = length-drop at text ∙ omega (arith, all) in
    ap chars (sym (nil_from_length (drop at text) none)) ∙ run_ends test text (drop at text) none before
