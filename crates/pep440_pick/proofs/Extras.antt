-- Extras, read one after another.
use Rattle.std.proofs.Common.{◌≡◌, ◌∙◌, ◌&&◌, ℕ, List, [], ◌∷◌, ◌++◌, Bool, true, false, cond, drop, map, Some, None, option_map, refl, sym, ap, append_assoc}
use Rattle.std.specs.Char.{is_ascii_whitespace}
use Rattle.std.specs.List.{list_all}
use Rattle.pep440_rs.specs.Lists.ListGrammar.{pieces}
use Rattle.pep440_pick.specs.Names.{is_name}
use Rattle.pep440_rs.specs.Blanks.{opens, trim_blanks}
use Rattle.pep440_pick.specs.RequirementReading.{bracketed, split_at_byte, extras_at, extras_in, listed_extras}
use Rattle.pep440_pick.proofs.Joined.{HasNo, first, later}

-- a text without a comma is one piece
pieces_whole : (t : List ℕ) → HasNo 44 t → pieces t ≡ t ∷ []
pieces_whole [] none = refl
pieces_whole (b ∷ t) none = rw (first 44 b t none, pieces_whole t (later 44 b t none)) refl

-- up to the first comma is a piece
pieces_split : (p q : List ℕ) → HasNo 44 p → pieces (p ++ (44 ∷ q)) ≡ p ∷ pieces q
pieces_split [] q none = refl
pieces_split (b ∷ p) q none = rw (first 44 b p none, pieces_split p q (later 44 b p none)) refl

-- the piece before a comma, and those behind it
pub next_piece : (rest part behind : List ℕ) → rest ≡ part ++ (44 ∷ behind) → HasNo 44 part → pieces rest ≡ part ∷ pieces behind
next_piece rest part behind e none = ap pieces e ∙ pieces_split part behind none

-- ---- whether the pieces are names

pub names_after : (rest part behind : List ℕ) → rest ≡ part ++ (44 ∷ behind) → HasNo 44 part → is_name (trim_blanks part) ≡ true
    → list_all is_name (map trim_blanks (pieces rest)) ≡ list_all is_name (map trim_blanks (pieces behind))
names_after rest part behind e none is = rw (next_piece rest part behind e none, is) refl

pub no_name_before : (rest part behind : List ℕ) → rest ≡ part ++ (44 ∷ behind) → HasNo 44 part → is_name (trim_blanks part) ≡ false → list_all is_name (map trim_blanks (pieces rest)) ≡ false
no_name_before rest part behind e none is = rw (next_piece rest part behind e none, is) refl

and_true : (b : Bool) → (b && true) ≡ b
and_true true = refl
and_true false = refl

pub last_name : (rest : List ℕ) → HasNo 44 rest → list_all is_name (map trim_blanks (pieces rest)) ≡ is_name (trim_blanks rest)
last_name rest none = rw (pieces_whole rest none) (and_true (is_name (trim_blanks rest)))

-- ---- copies of the pieces

-- the copies so far, before what is left
abbrev pub AreCopied : List (List ℕ) → List ℕ → List ℕ → Type 0
AreCopied copies rest inside = copies ++ map trim_blanks (pieces rest) ≡ map trim_blanks (pieces inside)

pub copied_more : (copies new : List (List ℕ)) (rest part behind inside : List ℕ) → rest ≡ part ++ (44 ∷ behind) → HasNo 44 part → new ≡ copies ++ trim_blanks part ∷ []
    → AreCopied copies rest inside → AreCopied new behind inside
copied_more copies new rest part behind inside e none more so_far =
    ap (λ (l : List (List ℕ)). l ++ map trim_blanks (pieces behind)) more ∙ append_assoc copies (trim_blanks part ∷ []) (map trim_blanks (pieces behind))
    ∙ ap (λ (ps : List (List ℕ)). copies ++ map trim_blanks ps) (sym (next_piece rest part behind e none)) ∙ so_far

pub copied_last : (copies new : List (List ℕ)) (rest inside : List ℕ) → HasNo 44 rest → new ≡ copies ++ trim_blanks rest ∷ [] → AreCopied copies rest inside → new ≡ map trim_blanks (pieces inside)
copied_last copies new rest inside none more so_far = more ∙ ap (λ (ps : List (List ℕ)). copies ++ map trim_blanks ps) (sym (pieces_whole rest none)) ∙ so_far

pub listed : (inside : List ℕ) (copies : List (List ℕ)) → list_all is_ascii_whitespace inside ≡ false → copies ≡ map trim_blanks (pieces inside) → copies ≡ listed_extras inside
listed inside copies some is = is ∙ ap (λ (b : Bool). cond b [] (map trim_blanks (pieces inside))) (sym some)

-- ---- what stands in brackets

pub no_extras : (inside : List ℕ) → list_all is_ascii_whitespace inside ≡ true → extras_in inside ≡ Some []
unfolding extras_in
no_extras inside e = rw e refl

pub some_extras : (inside : List ℕ) → list_all is_ascii_whitespace inside ≡ false
    → extras_in inside ≡ cond (list_all is_name (map trim_blanks (pieces inside))) (Some (map trim_blanks (pieces inside))) None
unfolding extras_in
some_extras inside e = rw e refl

pub extras_known : (inside : List ℕ) → list_all is_name (listed_extras inside) ≡ true → extras_in inside ≡ Some (listed_extras inside)
unfolding extras_in
extras_known inside e = rw e refl

pub extras_unknown : (inside : List ℕ) → list_all is_name (listed_extras inside) ≡ false → extras_in inside ≡ None
unfolding extras_in
extras_unknown inside e = rw e refl

-- ---- brackets

pub no_bracket : (text : List ℕ) → opens 91 text ≡ false → extras_at text ≡ Some ([], text)
unfolding extras_at
no_bracket text e = rw e refl

pub in_bracket : (text : List ℕ) → opens 91 text ≡ true → extras_at text ≡ bracketed (split_at_byte 93 (drop 1 text))
unfolding extras_at
in_bracket text e = rw e refl

-- ---- what stands at the front of a text

lacks : (b : Bool) (x : List ℕ) → None ≡ cond b (Some x) None → b ≡ false
lacks true x e = cc e
lacks false x e = refl

has : (b : Bool) (x rest : List ℕ) → Some rest ≡ cond b (Some x) None → (b ≡ true) × (rest ≡ x)
has true x rest e = (refl, cc e)
has false x rest e = cc e

pub prefix_lacks : (b : ℕ) (t : List ℕ) → None ≡ cond (opens b t) (Some (drop 1 t)) None → opens b t ≡ false
prefix_lacks b t e = lacks (opens b t) (drop 1 t) e

pub prefix_has : (b : ℕ) (t rest : List ℕ) → Some rest ≡ cond (opens b t) (Some (drop 1 t)) None → (opens b t ≡ true) × (rest ≡ drop 1 t)
prefix_has b t rest e = has (opens b t) (drop 1 t) rest e

-- ---- what the reader of extras finds

pub unclosed : (text tail : List ℕ) → Some tail ≡ cond (opens 91 text) (Some (drop 1 text)) None → None ≡ split_at_byte 93 tail → extras_at text ≡ None
unclosed text tail e none = let h = prefix_has 91 text tail e in in_bracket text h.0 ∙ ap (λ t. bracketed (split_at_byte 93 t)) (sym h.1) ∙ ap bracketed (sym none)

closed : (text tail inside behind : List ℕ) → Some tail ≡ cond (opens 91 text) (Some (drop 1 text)) None → Some (inside, behind) ≡ split_at_byte 93 tail → extras_at text ≡ bracketed (Some (inside, behind))
closed text tail inside behind e is = let h = prefix_has 91 text tail e in in_bracket text h.0 ∙ ap (λ t. bracketed (split_at_byte 93 t)) (sym h.1) ∙ ap bracketed (sym is)

pub closed_some : (text tail inside behind : List ℕ) (extras : List (List ℕ)) → Some tail ≡ cond (opens 91 text) (Some (drop 1 text)) None → Some (inside, behind) ≡ split_at_byte 93 tail
    → extras_in inside ≡ Some extras → extras_at text ≡ Some (extras, behind)
closed_some text tail inside behind extras e is found = closed text tail inside behind e is ∙ ap (option_map (λ x. (x, behind))) found

pub closed_none : (text tail inside behind : List ℕ) → Some tail ≡ cond (opens 91 text) (Some (drop 1 text)) None → Some (inside, behind) ≡ split_at_byte 93 tail → extras_in inside ≡ None → extras_at text ≡ None
closed_none text tail inside behind e is none = closed text tail inside behind e is ∙ ap (option_map (λ x. (x, behind))) none
