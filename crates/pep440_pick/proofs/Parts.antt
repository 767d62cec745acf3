-- Extras and the text of a list: reading and grammar agree.
use Rattle.std.proofs.Common.{◌≡◌, ◌==◌, ◌+◌, ◌∙◌, ◌&&◌, ℕ, suc, List, [], ◌∷◌, ◌++◌, Bool, true, false, cond, drop, map, Option, Some, None, option_map, refl, sym, ap, subst, arith, inl, inr, eqb-true, Ok, Err}
use Rattle.std.proofs.lemmas.Bool.{and_parts, cases_Bool}
use Rattle.std.proofs.lemmas.Bool.Decides.{nat_tests}
use Rattle.std.proofs.lemmas.Option.{cond_some, same_Some}
use Rattle.std.specs.Char.{is_ascii_whitespace, is_ascii_alphanumeric}
use Rattle.std.specs.List.{list_all, prefix_len}
use Rattle.pep440_version.specs.Reading.{past}
use Rattle.pep440_rs.specs.Lists.ListGrammar.{pieces}
use Rattle.pep440_pick.specs.Names.{is_name, is_name_byte}
use Rattle.pep440_rs.specs.Blanks.{opens, trim_blanks, trimmed_end}
use Rattle.pep440_pick.specs.RequirementGrammar.{AreExtras, HasExtras, HasList, has_byte, InvalidExtras, InvalidName, Unclosed}
use Rattle.pep440_pick.specs.RequirementReading.{bracketed, split_at_byte, extras_at, extras_in, list_in, without_end, prefix_after_name, with_extras, with_list}
use Rattle.pep440_pick.proofs.Joined.{split_first, end_found}
use Rattle.pep440_pick.proofs.Extras.{in_bracket, no_bracket, no_extras, some_extras}
use Rattle.pep440_version.specs.Grammar.{starts}
use Rattle.pep440_version.specs.Rejections.{ends}

-- ---- blanks alone

blank_no_comma : (b : ℕ) → is_ascii_whitespace b ≡ true → (b == 44) ≡ false
blank_no_comma b e = grind (arith, nat_tests)

blank_piece : (t : List ℕ) → list_all is_ascii_whitespace t ≡ true → pieces t ≡ t ∷ []
blank_piece [] e = refl
blank_piece (b ∷ t) e =
    let parts = and_parts (is_ascii_whitespace b) (list_all is_ascii_whitespace t) e in
    rw (blank_no_comma b parts.0, blank_piece t parts.1) refl

past_blanks_none : (t : List ℕ) → list_all is_ascii_whitespace t ≡ true → past is_ascii_whitespace t ≡ []
past_blanks_none [] e = refl
past_blanks_none (b ∷ t) e =
    let parts = and_parts (is_ascii_whitespace b) (list_all is_ascii_whitespace t) e in
    let step : 1 + prefix_len is_ascii_whitespace t ≡ suc (prefix_len is_ascii_whitespace t) = omega arith in
    ap (λ (x : Bool). drop (cond x (1 + prefix_len is_ascii_whitespace t) 0) (b ∷ t)) parts.0 ∙ ap (λ n. drop n (b ∷ t)) step ∙ past_blanks_none t parts.1

-- blanks alone are no name
blanks_unnamed : (t : List ℕ) → list_all is_ascii_whitespace t ≡ true → list_all is_name (map trim_blanks (pieces t)) ≡ false
blanks_unnamed t e = ap (λ (ps : List (List ℕ)). list_all is_name (map trim_blanks ps)) (blank_piece t e) ∙ ap (λ (x : List ℕ). is_name (trimmed_end x) && true) (past_blanks_none t e)

-- ---- extras

none_some : {A P : Type 0} (x : A) → None ≡ Some x → P
none_some x e = cc e

pub extras_sound : (inside : List ℕ) (extras : List (List ℕ)) → extras_in inside ≡ Some extras → AreExtras inside extras
extras_sound inside extras e = elim (cases_Bool (list_all is_ascii_whitespace inside)) [
  | inl h ↦ inl (h, sym (same_Some [] extras (sym (no_extras inside h) ∙ e)))
  | inr h ↦
      let found = cond_some (list_all is_name (map trim_blanks (pieces inside))) (map trim_blanks (pieces inside)) extras (sym (some_extras inside h) ∙ e) in
      inr (sym found.1, ap (list_all is_name) (sym found.1) ∙ found.0)
]

pub extras_complete : (inside : List ℕ) (extras : List (List ℕ)) → AreExtras inside extras → extras_in inside ≡ Some extras
extras_complete inside extras (inl h) = no_extras inside h.0 ∙ ap (λ (x : List (List ℕ)). Some x) (sym h.1)
extras_complete inside extras (inr h) = elim (cases_Bool (list_all is_ascii_whitespace inside)) [
  | inl blank ↦ let never : true ≡ false = sym h.1 ∙ ap (list_all is_name) h.0 ∙ blanks_unnamed inside blank in cc never
  | inr some ↦
      let valid : list_all is_name (map trim_blanks (pieces inside)) ≡ true = ap (list_all is_name) (sym h.0) ∙ h.1 in
      some_extras inside some ∙ ap (λ (b : Bool). cond b (Some (map trim_blanks (pieces inside))) None) valid ∙ ap (λ (x : List (List ℕ)). Some x) (sym h.0)
]

-- ---- the first such byte

abbrev CutAt : ℕ → List ℕ → List ℕ × List ℕ → Type 0
CutAt b t p = (t ≡ p.0 ++ (b ∷ p.1)) × (has_byte b p.0 ≡ false)

split_further : (b x : ℕ) (t : List ℕ) (p : List ℕ × List ℕ) → (x == b) ≡ false → (o : Option (List ℕ × List ℕ)) → ((q : List ℕ × List ℕ) → o ≡ Some q → CutAt b t q)
    → option_map (λ (q : List ℕ × List ℕ). (x ∷ q.0, q.1)) o ≡ Some p → CutAt b (x ∷ t) p
split_further b x t p h None found g = none_some p g
split_further b x t p h (Some q) found g =
    let there = found q refl in
    let same : (x ∷ q.0, q.1) ≡ p = same_Some (x ∷ q.0, q.1) p g in
    let prefix : x ∷ q.0 ≡ p.0 = ap (λ (r : List ℕ × List ℕ). r.0) same in
    let back : q.1 ≡ p.1 = ap (λ (r : List ℕ × List ℕ). r.1) same in
    (ap (λ (l : List ℕ). x ∷ l) there.0 ∙ (λ i. prefix i ++ (b ∷ back i)), ap (has_byte b) (sym prefix) ∙ rw (h, there.1) refl)

split_found : (b : ℕ) (t : List ℕ) (p : List ℕ × List ℕ) → split_at_byte b t ≡ Some p → CutAt b t p
unfolding split_at_byte
split_found b [] p e = none_some p e
split_found b (x ∷ t) p e = elim (cases_Bool (x == b)) [
  | inl h ↦
      let is : ([], t) ≡ p = same_Some ([], t) p (ap (λ (c : Bool). cond c (Some ([], t)) (option_map (λ (q : List ℕ × List ℕ). (x ∷ q.0, q.1)) (split_at_byte b t))) (sym h) ∙ e) in
      let prefix : [] ≡ p.0 = ap (λ (q : List ℕ × List ℕ). q.0) is in
      let back : t ≡ p.1 = ap (λ (q : List ℕ × List ℕ). q.1) is in
      ((λ i. eqb-true x b h i ∷ back i) ∙ ap (λ (l : List ℕ). l ++ (b ∷ p.1)) prefix, ap (has_byte b) (sym prefix))
  | inr h ↦
      split_further b x t p h (split_at_byte b t) (λ q is. split_found b t q is)
      (ap (λ (c : Bool). cond c (Some ([], t)) (option_map (λ (q : List ℕ × List ℕ). (x ∷ q.0, q.1)) (split_at_byte b t))) (sym h) ∙ e)
]

opened : (b : ℕ) (t : List ℕ) → opens b t ≡ true → t ≡ b ∷ drop 1 t
opened b [] e = cc e
opened b (x ∷ t) e = ap (λ y. y ∷ t) (eqb-true x b e)

opens_so : (b : ℕ) (t : List ℕ) → opens b (b ∷ t) ≡ true
opens_so b t = grind (arith, nat_tests)

bracketed_found : (text : List ℕ) (o : Option (List ℕ × List ℕ)) (p : List (List ℕ) × List ℕ) → opens 91 text ≡ true → split_at_byte 93 (drop 1 text) ≡ o → bracketed o ≡ Some p → HasExtras text p.0 p.1
bracketed_found text None p begins is e = none_some p e
bracketed_found text (Some q) p begins is e = found (extras_in q.0) refl e
  where
    found : (o : Option (List (List ℕ))) → extras_in q.0 ≡ o → option_map (λ (x : List (List ℕ)). (x, q.1)) o ≡ Some p → HasExtras text p.0 p.1
    found None read g = none_some p g
    found (Some extras) read g =
        let same : (extras, q.1) ≡ p = same_Some (extras, q.1) p g in
        let decomposition = split_found 93 (drop 1 text) q is in
        subst (λ (r : List (List ℕ) × List ℕ). HasExtras text r.0 r.1) same
        (inr (q.0, (opened 91 text begins ∙ ap (λ (l : List ℕ). 91 ∷ l) decomposition.0, decomposition.1), extras_sound q.0 extras read))

pub brackets_sound : (text : List ℕ) (p : List (List ℕ) × List ℕ) → extras_at text ≡ Some p → HasExtras text p.0 p.1
brackets_sound text p e = elim (cases_Bool (opens 91 text)) [
  | inl h ↦ bracketed_found text (split_at_byte 93 (drop 1 text)) p h refl (sym (in_bracket text h) ∙ e)
  | inr h ↦
      let same : ([], text) ≡ p = same_Some ([], text) p (sym (no_bracket text h) ∙ e) in
      inl (h, sym (ap (λ (r : List (List ℕ) × List ℕ). r.0) same), sym (ap (λ (r : List (List ℕ) × List ℕ). r.1) same))
]

pub brackets_complete : (text : List ℕ) (extras : List (List ℕ)) (behind : List ℕ) → HasExtras text extras behind → extras_at text ≡ Some (extras, behind)
brackets_complete text extras behind (inl (closed, none, same)) = no_bracket text closed ∙ (λ i. Some (sym none i, sym same i))
brackets_complete text extras behind (inr (inside, (decomposition, whole), are)) =
    let opens_here : opens 91 text ≡ true = ap (opens 91) decomposition ∙ opens_so 91 (inside ++ (93 ∷ behind)) in
    in_bracket text opens_here ∙ ap (λ (t : List ℕ). bracketed (split_at_byte 93 (drop 1 t))) decomposition ∙ ap bracketed (split_first 93 inside behind whole)
    ∙ ap (option_map (λ (x : List (List ℕ)). (x, behind))) (extras_complete inside extras are)

-- ---- the text of the list

end_further : (b x : ℕ) (t prefix : List ℕ) (o : Option (List ℕ)) → ((f : List ℕ) → o ≡ Some f → t ≡ f ++ b ∷ []) → option_map (λ (l : List ℕ). x ∷ l) o ≡ Some prefix → x ∷ t ≡ prefix ++ b ∷ []
end_further b x t prefix None found g = none_some prefix g
end_further b x t prefix (Some f) found g = ap (λ (l : List ℕ). x ∷ l) (found f refl) ∙ ap (λ (l : List ℕ). l ++ b ∷ []) (same_Some (x ∷ f) prefix g)

end_sound : (b : ℕ) (t prefix : List ℕ) → without_end b t ≡ Some prefix → t ≡ prefix ++ b ∷ []
unfolding without_end
end_sound b [] prefix e = none_some prefix e
end_sound b (x ∷ []) prefix e =
    let found = cond_some (x == b) [] prefix e in
    (λ i. eqb-true x b found.0 i ∷ []) ∙ ap (λ (l : List ℕ). l ++ b ∷ []) found.1
end_sound b (x ∷ y ∷ t) prefix e = end_further b x (y ∷ t) prefix (without_end b (y ∷ t)) (λ f is. end_sound b (y ∷ t) f is) e

in_parentheses : (behind list : List ℕ) (o : Option (List ℕ)) → opens 40 (trim_blanks behind) ≡ true → without_end 41 (drop 1 (trim_blanks behind)) ≡ o → option_map trim_blanks o ≡ Some list → HasList behind list
in_parentheses behind list None begins is e = none_some list e
in_parentheses behind list (Some inner) begins is e =
    inr (inner, opened 40 (trim_blanks behind) begins ∙ ap (λ (l : List ℕ). 40 ∷ l) (end_sound 41 (drop 1 (trim_blanks behind)) inner is), sym (same_Some (trim_blanks inner) list e))

pub list_sound : (behind list : List ℕ) → list_in (trim_blanks behind) ≡ Some list → HasList behind list
list_sound behind list e = elim (cases_Bool (opens 40 (trim_blanks behind))) [
  | inl h ↦ in_parentheses behind list (without_end 41 (drop 1 (trim_blanks behind))) h refl (with_choice true h ∙ e)
  | inr h ↦ inl (h, sym (same_Some (trim_blanks behind) list (with_choice false h ∙ e)))
]
  where
    with_choice : (b : Bool) → opens 40 (trim_blanks behind) ≡ b → cond b (option_map trim_blanks (without_end 41 (drop 1 (trim_blanks behind)))) (Some (trim_blanks behind)) ≡ list_in (trim_blanks behind)
    with_choice b h = ap (λ (c : Bool). cond c (option_map trim_blanks (without_end 41 (drop 1 (trim_blanks behind)))) (Some (trim_blanks behind))) (sym h)

pub list_complete : (behind list : List ℕ) → HasList behind list → list_in (trim_blanks behind) ≡ Some list
list_complete behind list (inl (plain, is)) =
    ap (λ (c : Bool). cond c (option_map trim_blanks (without_end 41 (drop 1 (trim_blanks behind)))) (Some (trim_blanks behind))) plain ∙ ap (λ (l : List ℕ). Some l) (sym is)
list_complete behind list (inr (inner, decomposition, is)) =
    ap list_in decomposition ∙ ap (λ (c : Bool). cond c (option_map trim_blanks (without_end 41 (inner ++ 41 ∷ []))) (Some (40 ∷ (inner ++ 41 ∷ [])))) (opens_so 40 (inner ++ 41 ∷ []))
    ∙ ap (option_map trim_blanks) (end_found 41 inner) ∙ ap (λ (l : List ℕ). Some l) (sym is)

-- ---- the parts of a text, as its readers find them

pub not_named : (name rest : List ℕ) → is_name name ≡ false → prefix_after_name name rest ≡ Err InvalidName
unfolding prefix_after_name
not_named name rest e = rw e refl

-- bytes of names, which were read as these, are a name by their ends alone
pub ends_decide : (name bytes : List ℕ) (b : Bool) → list_all is_name_byte name ≡ true → bytes ≡ name → (starts is_ascii_alphanumeric bytes && ends is_ascii_alphanumeric bytes) ≡ b → is_name name ≡ b
ends_decide name bytes b all same e =
    ap (λ (x : Bool). x && (starts is_ascii_alphanumeric name && ends is_ascii_alphanumeric name)) all ∙ ap (λ (t : List ℕ). starts is_ascii_alphanumeric t && ends is_ascii_alphanumeric t) (sym same) ∙ e

pub is_named : (name rest : List ℕ) → is_name name ≡ true → prefix_after_name name rest ≡ with_extras name (extras_at rest)
unfolding prefix_after_name
is_named name rest e = rw e refl

-- extras that are none
pub no_extras_named : (name rest : List ℕ) → is_name name ≡ true → extras_at rest ≡ None → prefix_after_name name rest ≡ Err InvalidExtras
no_extras_named name rest is none = is_named name rest is ∙ ap (with_extras name) none

with_extras_is : (name rest behind inner : List ℕ) (extras : List (List ℕ)) (list : Option (List ℕ)) → is_name name ≡ true → extras_at rest ≡ Some (extras, behind) → inner ≡ trim_blanks behind → list ≡ list_in inner
    → prefix_after_name name rest ≡ with_list name extras list
with_extras_is name rest behind inner extras list is found inside text =
    is_named name rest is ∙ ap (with_extras name) found ∙ ap (λ t. with_list name extras (list_in t)) (sym inside) ∙ ap (with_list name extras) (sym text)

pub found_named : (name rest behind inner list : List ℕ) (extras : List (List ℕ)) → is_name name ≡ true → extras_at rest ≡ Some (extras, behind) → inner ≡ trim_blanks behind → Some list ≡ list_in inner
    → prefix_after_name name rest ≡ Ok (record { name = name; extras = extras; list = list })
found_named name rest behind inner list extras is found inside text = with_extras_is name rest behind inner extras (Some list) is found inside text

pub unclosed_named : (name rest behind inner : List ℕ) (extras : List (List ℕ)) → is_name name ≡ true → extras_at rest ≡ Some (extras, behind) → inner ≡ trim_blanks behind → None ≡ list_in inner
    → prefix_after_name name rest ≡ Err Unclosed
unclosed_named name rest behind inner extras is found inside text = with_extras_is name rest behind inner extras None is found inside text
