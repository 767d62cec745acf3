-- What conditions on strings say of a variable.
use Rattle.std.proofs.Common.{◌≡◌, ◌⊎◌, ◌∙◌, ◌&&◌, ◌||◌, ℕ, List, [], ◌∷◌, Bool, true, false, not, Option, Some, None, ap, codes, inl, inr, is_none, refl, sym}
use Rattle.std.proofs.lemmas.Bool.{and_parts, false_from_ne_true, true≢false}
use Rattle.std.proofs.lemmas.Slice.Eq.{bytes_eq-Decides}
use Rattle.std.specs.List.{list_all}
use Rattle.std.specs.Option.{option_map_or, option_or}
use Rattle.std.specs.Prelude.{bytes_eq, cond, if◌then◌else◌, option_map}
use Rattle.pep440_pick.specs.Names.{normal}
use Rattle.pyver_requirements.specs.MarkerTokens.{Constant, Invalid, Side, Variable}
use Rattle.pyver_requirements.specs.declared.marker_operator.MarkerOperator.{MarkerOperator}
use Rattle.pyver_requirements.specs.declared.marker_operator.MarkerOperator.TheVariants as operator
use Rattle.pyver_markers.specs.Boxes.{Box, Condition, in_box, is_met, meets}
use Rattle.pyver_markers.specs.Conditions.{IsOperand, asked_text, beside_variable, comparable, compare_operand, first_asked, is_met_at, lacks_any_text, lacks_platform_text, lacks_text, right_of, wants_equal}
use Rattle.pyver_markers.specs.Environments.{Assignment, Environment, Names, Setting, Text, assigned}
use Rattle.pyver_markers.specs.declared.text_condition.Operand.{Operand}
use Rattle.pyver_markers.specs.declared.text_condition.Operand.TheVariants.{Left, Right}
use Rattle.pyver_markers.specs.MarkerComparisons.{compare, compare_left, compare_names, compare_right, compare_strings, compare_texts, compare_versions, is_name_variable, is_version_variable}

-- ---- strings

chosen : (versions named : Bool) (o : MarkerOperator) (left right : List ℕ) (v : Option Bool) → versions ≡ false
    → (if versions then v else if named then compare_strings (normal left) o (normal right) else compare_strings left o right)
    ≡ compare_strings (if named then normal left else left) o (if named then normal right else right)
chosen true named o left right v is = absurd (true≢false is)
chosen false true o left right v is = refl
chosen false false o left right v is = refl

-- a variable that is no version compares as strings do
as_strings : (name left right : List ℕ) (o : MarkerOperator) → is_version_variable name ≡ false
    → compare_texts name left o right ≡ compare_strings (comparable name left) o (comparable name right)
as_strings name left right o is = chosen (is_version_variable name) (is_name_variable name) o left right (compare_versions left o right) is

same_left : (name x text right : List ℕ) (o : MarkerOperator) → is_version_variable name ≡ false → comparable name x ≡ comparable name text
    → compare_texts name x o right ≡ compare_texts name text o right
same_left name x text right o is same =
    as_strings name x right o is ∙ ap (λ t. compare_strings t o (comparable name right)) same ∙ sym (as_strings name text right o is)

same_right : (name x text left : List ℕ) (o : MarkerOperator) → is_version_variable name ≡ false → comparable name x ≡ comparable name text
    → compare_texts name left o x ≡ compare_texts name left o text
same_right name x text left o is same =
    as_strings name left x o is ∙ ap (λ t. compare_strings (comparable name left) o t) same ∙ sym (as_strings name left text o is)

-- ---- conditions that fix a string

equal_so : (a b : List ℕ) → bytes_eq a b ≡ true → a ≡ b
equal_so a b is = (bytes_eq-Decides a b).0 is

twice : (b : Bool) → not (not b) ≡ true → b ≡ true
twice true is = refl
twice false is = is

equal_strings : (o : MarkerOperator) (w : Bool) (a b : List ℕ) → wants_equal o w ≡ true → is_met w (compare_strings a o b) ≡ true → a ≡ b
equal_strings operator.Equal true a b wants is = equal_so a b is
equal_strings operator.Equal false a b wants is = absurd (true≢false (sym wants))
equal_strings operator.LessOrEqual true a b wants is = equal_so a b is
equal_strings operator.LessOrEqual false a b wants is = absurd (true≢false (sym wants))
equal_strings operator.GreaterOrEqual true a b wants is = equal_so a b is
equal_strings operator.GreaterOrEqual false a b wants is = absurd (true≢false (sym wants))
equal_strings operator.NotEqual true a b wants is = absurd (true≢false (sym wants))
equal_strings operator.NotEqual false a b wants is = equal_so a b (twice (bytes_eq a b) is)
equal_strings operator.Less w a b wants is = absurd (true≢false (sym wants))
equal_strings operator.Greater w a b wants is = absurd (true≢false (sym wants))
equal_strings operator.Compatible w a b wants is = absurd (true≢false (sym wants))
equal_strings operator.Arbitrary w a b wants is = absurd (true≢false (sym wants))
equal_strings operator.In w a b wants is = absurd (true≢false (sym wants))
equal_strings operator.NotIn w a b wants is = absurd (true≢false (sym wants))

-- names are equal to no string
names_differ : (o : MarkerOperator) (w : Bool) (left : List ℕ) (names : List (List ℕ)) → wants_equal o w ≡ true → is_met w (compare_names left o names) ≡ true → ⊥
names_differ operator.Equal true left names wants is = true≢false (sym is)
names_differ operator.Equal false left names wants is = true≢false (sym wants)
names_differ operator.LessOrEqual true left names wants is = true≢false (sym is)
names_differ operator.LessOrEqual false left names wants is = true≢false (sym wants)
names_differ operator.GreaterOrEqual true left names wants is = true≢false (sym is)
names_differ operator.GreaterOrEqual false left names wants is = true≢false (sym wants)
names_differ operator.NotEqual true left names wants is = true≢false (sym wants)
names_differ operator.NotEqual false left names wants is = true≢false (sym is)
names_differ operator.Less w left names wants is = true≢false (sym wants)
names_differ operator.Greater w left names wants is = true≢false (sym wants)
names_differ operator.Compatible w left names wants is = true≢false (sym wants)
names_differ operator.Arbitrary w left names wants is = true≢false (sym wants)
names_differ operator.In w left names wants is = true≢false (sym wants)
names_differ operator.NotIn w left names wants is = true≢false (sym wants)

abbrev IsFixed : List ℕ → List ℕ → Option Setting → Type 0
IsFixed name text s = (x : List ℕ) × (s ≡ Some (Text x)) × (comparable name x ≡ comparable name text)

fixed_left : (name right : List ℕ) (o : MarkerOperator) (w : Bool) (s : Option Setting) → is_version_variable name ≡ false → wants_equal o w ≡ true
    → is_met w (compare_left name o right s) ≡ true → IsFixed name right s
fixed_left name right o w None is wants met = absurd (true≢false (sym met))
fixed_left name right o w (Some (Names names)) is wants met = absurd (true≢false (sym met))
fixed_left name right o w (Some (Text x)) is wants met =
    (x, refl, equal_strings o w (comparable name x) (comparable name right) wants (ap (is_met w) (sym (as_strings name x right o is)) ∙ met))

fixed_right : (name left : List ℕ) (o : MarkerOperator) (w : Bool) (s : Option Setting) → is_version_variable name ≡ false → wants_equal o w ≡ true
    → is_met w (compare_right left o name s) ≡ true → IsFixed name left s
fixed_right name left o w None is wants met = absurd (true≢false (sym met))
fixed_right name left o w (Some (Names names)) is wants met = absurd (names_differ o w left names wants met)
fixed_right name left o w (Some (Text x)) is wants met =
    (x, refl, sym (equal_strings o w (comparable name left) (comparable name x) wants (ap (is_met w) (sym (as_strings name left x o is)) ∙ met)))

-- ---- the string beside a variable

pub chosen_some : {A : Type 0} (b : Bool) (o : Option A) (x : A) → (if b then o else None) ≡ Some x → (b ≡ true) × (o ≡ Some x)
chosen_some true o x is = (refl, is)
chosen_some false o x is = cc is

left_asked : (name left text t : List ℕ) (o : MarkerOperator) → (if bytes_eq left name then Some text else None) ≡ Some t → (e : Environment)
    → compare_left left o text (e left) ≡ compare_left name o t (e name)
left_asked name left text t o is e =
    let (named, found) = chosen_some (bytes_eq left name) (Some text) t is in
    let same : left ≡ name = (bytes_eq-Decides left name).0 named in
    let also : text ≡ t = cc found in
    (λ j. compare_left (same j) o (also j) (e (same j)))

right_asked : (name right text t : List ℕ) (o : MarkerOperator) → (if bytes_eq right name then Some text else None) ≡ Some t → (e : Environment)
    → compare_right text o right (e right) ≡ compare_right t o name (e name)
right_asked name right text t o is e =
    let (named, found) = chosen_some (bytes_eq right name) (Some text) t is in
    let same : right ≡ name = (bytes_eq-Decides right name).0 named in
    let also : text ≡ t = cc found in
    (λ j. compare_right (also j) o (same j) (e (same j)))

-- such a comparison is one with the string on the right
pub right_asks : (name : List ℕ) (left right : Side) (o : MarkerOperator) (t : List ℕ) → right_of name left right ≡ Some t → (e : Environment)
    → compare e left o right ≡ compare_left name o t (e name)
right_asks name (Variable left) (Constant text) o t is e = left_asked name left text t o is e
right_asks name (Variable left) (Variable text) o t is e = left_asked name left text t o is e
right_asks name (Variable left) (Invalid f) o t is e = cc is
right_asks name (Constant left) right o t is e = cc is
right_asks name (Invalid f) right o t is e = cc is

-- the comparison is one with the string, on either side
abbrev IsBeside : List ℕ → Side → MarkerOperator → Side → List ℕ → Type 0
IsBeside name left o right t = ((e : Environment) → compare e left o right ≡ compare_left name o t (e name)) ⊎ ((e : Environment) → compare e left o right ≡ compare_right t o name (e name))

beside_asks : (name : List ℕ) (left right : Side) (o : MarkerOperator) (t : List ℕ) → beside_variable name left right ≡ Some t → IsBeside name left o right t
beside_asks name (Variable left) (Constant text) o t is = inl (left_asked name left text t o is)
beside_asks name (Variable left) (Variable text) o t is = inl (left_asked name left text t o is)
beside_asks name (Variable left) (Invalid f) o t is = cc is
beside_asks name (Constant text) (Variable right) o t is = inr (right_asked name right text t o is)
beside_asks name (Constant text) (Constant right) o t is = cc is
beside_asks name (Constant text) (Invalid f) o t is = cc is
beside_asks name (Invalid f) right o t is = cc is

asked_fixes : (name t : List ℕ) (c : Condition) (e : Environment) → is_version_variable name ≡ false → asked_text name c ≡ Some t → meets e c ≡ true → IsFixed name t (e name)
asked_fixes name t c e is asked met =
    let (wants, beside) = chosen_some (wants_equal c.operator c.wanted) (beside_variable name c.left c.right) t asked in
    elim (beside_asks name c.left c.right c.operator t beside) [
      | inl asks ↦ fixed_left name t c.operator c.wanted (e name) is wants (ap (is_met c.wanted) (sym (asks e)) ∙ met)
      | inr asks ↦ fixed_right name t c.operator c.wanted (e name) is wants (ap (is_met c.wanted) (sym (asks e)) ∙ met)
    ]

-- ---- conditions where the variable is a string

-- the environment that has this variable and no other
abbrev pub Alone : List ℕ → List ℕ → Environment
Alone name text = assigned (record { name = name; text = text } ∷ [])

pub is_alone : (name text : List ℕ) → Alone name text name ≡ Some (Text text)
is_alone name text =
    ap (λ b. option_map (λ (v : Assignment). Text v.text) (cond b (Some (record { name = name; text = text })) None)) ((bytes_eq-Decides name name).1 refl)

-- what is met beside an operand
pub met_beside : (name text : List ℕ) (c : Condition) (operand : Operand) → IsOperand name c operand
    → is_met c.wanted (compare_operand name text c.operator operand) ≡ meets (Alone name text) c
met_beside name text c (Right right) asks = ap (is_met c.wanted) (sym (asks (Alone name text) ∙ ap (compare_left name c.operator right.now) (is_alone name text)))
met_beside name text c (Left left) asks = ap (is_met c.wanted) (sym (asks (Alone name text) ∙ ap (compare_right left.now c.operator name) (is_alone name text)))

-- comparisons see no difference between the two strings
module _ (name x text : List ℕ) (e : Environment) (left : (t : List ℕ) (o : MarkerOperator) → compare_texts name x o t ≡ compare_texts name text o t)
    (right : (t : List ℕ) (o : MarkerOperator) → compare_texts name t o x ≡ compare_texts name t o text) (has : e name ≡ Some (Text x)) where
  met_alone : (c : Condition) (t : List ℕ) → IsBeside name c.left c.operator c.right t → meets (Alone name text) c ≡ meets e c
  met_alone c t beside = elim beside [
    | inl asks ↦ ap (is_met c.wanted) (asks (Alone name text) ∙ ap (compare_left name c.operator t) (is_alone name text)
        ∙ sym (asks e ∙ ap (compare_left name c.operator t) has ∙ left t c.operator))
    | inr asks ↦ ap (is_met c.wanted) (asks (Alone name text) ∙ ap (compare_right t c.operator name) (is_alone name text)
        ∙ sym (asks e ∙ ap (compare_right t c.operator name) has ∙ right t c.operator))
  ]

  met_at : (c : Condition) → meets e c ≡ true → is_met_at name text c ≡ true
  met_at c met = by_beside (beside_variable name c.left c.right) refl
    where
      by_beside : (o : Option (List ℕ)) → beside_variable name c.left c.right ≡ o → (is_none o || meets (Alone name text) c) ≡ true
      by_beside None beside = refl
      by_beside (Some t) beside = met_alone c t (beside_asks name c.left c.right c.operator t beside) ∙ met

  all_met_at : (box : Box) → in_box e box ≡ true → list_all (is_met_at name text) box ≡ true
  all_met_at [] inside = refl
  all_met_at (c ∷ box) inside =
      let (met, later) = and_parts (meets e c) (in_box e box) inside in
      let first : is_met_at name text c ≡ true = met_at c met in
      let others : list_all (is_met_at name text) box ≡ true = all_met_at box later in
      (λ j. first j && others j)

-- ---- boxes

first_fixes : (name t : List ℕ) (e : Environment) → is_version_variable name ≡ false → (box : Box) → first_asked name box ≡ Some t → in_box e box ≡ true → IsFixed name t (e name)
first_fixes name t e is [] found inside = cc found
first_fixes name t e is (c ∷ box) found inside =
    let (met, later) = and_parts (meets e c) (in_box e box) inside in
    by_asked (asked_text name c) refl found met (λ first. first_fixes name t e is box first later)
  where
    by_asked : (o : Option (List ℕ)) → asked_text name c ≡ o → option_or o (first_asked name box) ≡ Some t → meets e c ≡ true
        → (first_asked name box ≡ Some t → IsFixed name t (e name)) → IsFixed name t (e name)
    by_asked None asked first met others = others first
    by_asked (Some u) asked here met others = asked_fixes name t c e is (asked ∙ here) met

without_string : (name : List ℕ) (box : Box) → is_version_variable name ≡ false → lacks_text name box ≡ true → (e : Environment) → in_box e box ≡ false
without_string name box is lacks e = false_from_ne_true (in_box e box) (λ inside. by_first inside (first_asked name box) refl lacks)
  where
    by_first : in_box e box ≡ true → (o : Option (List ℕ)) → first_asked name box ≡ o → option_map_or (λ text. not (list_all (is_met_at name text) box)) o false ≡ true → ⊥
    by_first inside None first none = true≢false (sym none)
    by_first inside (Some t) first none =
        let (x, has, same) = first_fixes name t e is box first inside in
        true≢false (sym none ∙ ap not (all_met_at name x t e (λ u o. same_left name x t u o is same) (λ u o. same_right name x t u o is same) has box inside))

pub either_is : (a b : Bool) → (a || b) ≡ true → (a ≡ true) ⊎ (b ≡ true)
either_is true b e = inl refl
either_is false b e = inr e

module _ (box : Box) (e : Environment) where
  or_later : (name : List ℕ) (later : Bool) → is_version_variable name ≡ false → (later ≡ true → in_box e box ≡ false) → (lacks_text name box || later) ≡ true → in_box e box ≡ false
  or_later name later is others either = elim (either_is (lacks_text name box) later either) [
    | inl here ↦ without_string name box is here e
    | inr there ↦ others there
  ]

  last : (name : List ℕ) → is_version_variable name ≡ false → lacks_text name box ≡ true → in_box e box ≡ false
  last name is here = without_string name box is here e

  of_platform : lacks_platform_text box ≡ true → in_box e box ≡ false
  of_platform = or_later (codes "os_name") _ refl (or_later (codes "sys_platform") _ refl (or_later (codes "platform_system") _ refl
      (or_later (codes "platform_version") _ refl (last (codes "platform_machine") refl))))

  of_others : (lacks_text (codes "platform_python_implementation") box || (lacks_text (codes "implementation_name") box || lacks_text (codes "extra") box)) ≡ true → in_box e box ≡ false
  of_others = or_later (codes "platform_python_implementation") _ refl (or_later (codes "implementation_name") _ refl (last (codes "extra") refl))

-- no environment is in a box in which a variable is to be another string
pub without_text : (box : Box) → lacks_any_text box ≡ true → (e : Environment) → in_box e box ≡ false
without_text box lacks e =
    elim (either_is (lacks_platform_text box) (lacks_text (codes "platform_python_implementation") box || (lacks_text (codes "implementation_name") box || lacks_text (codes "extra") box)) lacks) [
      | inl here ↦ of_platform box e here
      | inr there ↦ of_others box e there
    ]

-- ---- one string

-- a box in which not all conditions are met where the variable is this string has no environment in which it is
pub text_excluded : (name text : List ℕ) (box : Box) → not (list_all (is_met_at name text) box) ≡ true → (e : Environment) → e name ≡ Some (Text text) → in_box e box ≡ false
text_excluded name text box unmet e has =
    false_from_ne_true (in_box e box) (λ inside. true≢false (sym unmet ∙ ap not (all_met_at name text text e (λ t o. refl) (λ t o. refl) has box inside)))

as_it_is : (name y : List ℕ) → is_name_variable name ≡ false → comparable name y ≡ y
as_it_is name y is = ap (λ b. if b then normal y else y) is

-- so has a box that asks for another string
pub asked_differs : (name t text : List ℕ) (box : Box) → is_version_variable name ≡ false → is_name_variable name ≡ false → first_asked name box ≡ Some t
    → bytes_eq text t ≡ false → (e : Environment) → e name ≡ Some (Text text) → in_box e box ≡ false
asked_differs name t text box is plain first differs e has =
    false_from_ne_true (in_box e box) (λ inside.
    let (x, there, same) = first_fixes name t e is box first inside in
    let here : x ≡ text = cc (there, has) in
    true≢false (sym ((bytes_eq-Decides text t).1 (sym here ∙ sym (as_it_is name x plain) ∙ same ∙ as_it_is name t plain)) ∙ differs))
