-- Markers are read exactly where the grammar derives one, as its normal form, and each has the steps that its terms are made of.
use Rattle.std.proofs.Common.{◌≡◌, ◌∙◌, ℕ, List, [], ◌∷◌, ◌++◌, Ok, Err, Result, ap, append_assoc, refl, sym, map, ◌+◌, ◌<◌, suc, zero, Bool, true, false, arith, length, nat_lt, subst, if◌then◌else◌}
use Rattle.std.proofs.lemmas.List.{append-nil}
use Rattle.pyver_requirements.proofs.MarkerStepReadings.{steps_are_read, before, behind, group}
use Rattle.pyver_requirements.specs.MarkerGrammar.{Both, Comparison, Either, Marker, terms, Conjunction, Denotes, Disjunction, Operand, alone, at, both, compared, either, enclosed, one}
use Rattle.pyver_requirements.specs.MarkerReading.{MarkersAreRead, ReadMarkersAreDerived, last_terms, marker, normal_form, terms_after_steps}
use Rattle.pyver_requirements.specs.MarkerSteps.{JoinBoth, JoinEither, Misfit, Step, marker_steps, steps, Group, OpenGroups, ReadStepsAreDerived, end_steps, read_tokens, take_token, unless_stray}
use Rattle.pyver_requirements.specs.MarkerTerms.{Terms, terms_text, union}
use Rattle.pyver_requirements.specs.MarkerViews.{IsMarkerFault, set_of}
use Rattle.pyver_requirements.specs.declared.marker_fault.MarkerError.{MarkerError}
use Rattle.std.specs.BTreeSet.{BTreeSet, insert_key}
use Rattle.std.specs.Cmp.Lexicographic.{slice_cmp}
use Rattle.std.specs.Global.{Vec}
use Rattle.std.specs.Ordering.{match_ordering, nat_cmp}
use Rattle.std.specs.declared.cmp.Ordering.{Ordering}
use Rattle.std.specs.declared.cmp.Ordering.TheVariants.{Equal, Greater, Less}
use Rattle.std.proofs.lemmas.Bool.Decides.{nat_tests}
use Rattle.pyver_requirements.specs.MarkerTokens.{And, Close, Compares, Faulty, Lexeme, Open, Or, Token, lexemes}
use Rattle.pyver_requirements.specs.declared.marker_fault.MarkerError.TheVariants as error
use Rattle.pyver_requirements.specs.MarkerGrammar as grammar

joined : (xs ys : List Step) (s : Step) (rest : List Step) → (xs ++ (ys ++ s ∷ [])) ++ rest ≡ xs ++ (ys ++ s ∷ rest)
joined xs ys s rest = append_assoc xs (ys ++ s ∷ []) rest ∙ ap (λ z. xs ++ z) (append_assoc ys (s ∷ []) rest)

taken : (m : Marker) (rest : List Step) (ts : List Terms) → terms_after_steps (steps m ++ rest) ts ≡ terms_after_steps rest (terms m ∷ ts)
taken (Comparison left o right) rest ts = refl
taken (Both a b) rest ts =
    ap (λ s. terms_after_steps s ts) (joined (steps a) (steps b) JoinBoth rest) ∙ taken a (steps b ++ JoinBoth ∷ rest) ts ∙ taken b (JoinBoth ∷ rest) (terms a ∷ ts)
taken (Either a b) rest ts =
    ap (λ s. terms_after_steps s ts) (joined (steps a) (steps b) JoinEither rest) ∙ taken a (steps b ++ JoinEither ∷ rest) ts ∙ taken b (JoinEither ∷ rest) (terms a ∷ ts)

normal_of : (m : Marker) → last_terms (terms_after_steps (steps m) []) ≡ terms m
normal_of m = ap (λ s. last_terms (terms_after_steps s [])) (sym (append-nil (steps m))) ∙ ap last_terms (taken m [] [])

pub markers_are_read : MarkersAreRead
unfolding marker
markers_are_read text m d = ap normal_form (steps_are_read text m d) ∙ ap (λ t. Ok (terms_text t)) (normal_of m)

steps_of : (found : Result (List Step) Misfit) (normal : List ℕ) → normal_form found ≡ Ok normal → (all : List Step) × (found ≡ Ok all)
steps_of (Ok all) normal is = (all, refl)
steps_of (Err f) normal is = cc is

marker_steps_of : (text normal : List ℕ) → marker text ≡ Ok normal → (all : List Step) × (marker_steps text ≡ Ok all)
unfolding marker
marker_steps_of text normal is = steps_of (marker_steps text) normal is

-- ---- what was read of a group

-- the tokens up to the last `or`, and whether there are any
data Alternatives : ℕ → List Lexeme → Bool → Type 0 where
  no_or : {d : ℕ} → Alternatives d [] false
  up_to_or : {d : ℕ} {tokens : List Lexeme} {a : Marker} (k : ℕ) → Denotes Disjunction d tokens a → Alternatives d (tokens ++ at Or k ∷ []) true

-- the tokens since then, up to an `and`
data Chain : ℕ → List Lexeme → Bool → Type 0 where
  no_and : {d : ℕ} → Chain d [] false
  up_to_and : {d : ℕ} {tokens : List Lexeme} {c : Marker} (k : ℕ) → Denotes Conjunction d tokens c → Chain d (tokens ++ at And k ∷ []) true

-- the tokens of a group before an operand
data Begun : ℕ → List Lexeme → Group → Type 0 where
  begun : {d : ℕ} {xs ys : List Lexeme} {a c : Bool} → Alternatives d xs a → Chain d ys c → Begun d (xs ++ ys) (group a c)

-- the tokens of the groups around the innermost, in which at most so many parentheses can stand
data Around : ℕ → List Group → List Lexeme → Type 0 where
  top : Around 100 [] []
  inside : {d : ℕ} {outer : List Group} {inner : Group} {xs ys : List Lexeme} (k : ℕ) → Around (suc d) outer xs → Begun (suc d) ys inner → Around d (inner ∷ outer) (xs ++ (ys ++ at Open k ∷ []))

-- the tokens of a group behind an operand
data Filled : ℕ → List Lexeme → Bool → Type 0 where
  filled : {d : ℕ} {xs ys : List Lexeme} {a : Bool} {c : Marker} → Alternatives d xs a → Denotes Conjunction d ys c → Filled d (xs ++ ys) a

-- ---- what was read

data IsRead : List Lexeme → OpenGroups → Type 0 where
  wanting : {d n : ℕ} {outer : List Group} {inner : Group} {ps us : List Lexeme} {taken : List Step} → Around d outer ps → Begun d us inner → IsRead (ps ++ us) (before n outer inner taken)
  having : {d n : ℕ} {outer : List Group} {a : Bool} {ps us : List Lexeme} {taken : List Step} → Around d outer ps → Filled d us a → IsRead (ps ++ us) (behind n outer a taken)

-- ---- all tokens

-- the tokens denote a marker
abbrev pub IsDerived : List Lexeme → Type 0
IsDerived tokens = (m : Marker) × Denotes Disjunction 100 tokens m

-- ---- one token more

operand_more : {d : ℕ} {xs ts : List Lexeme} {g : Group} {m : Marker} → Begun d xs g → Denotes Operand d ts m → Filled d (xs ++ ts) g.has_alternatives
operand_more {d = d} {ts = ts} (begun {xs = xs} {a = a} before_or no_and) o = subst (λ (z : List Lexeme). Filled d (z ++ ts) a) (sym (append-nil xs)) (filled before_or (one o))
operand_more {d = d} {ts = ts} (begun {xs = xs} {a = a} before_or (up_to_and {tokens = ys} k e)) o =
    subst (λ (z : List Lexeme). Filled d z a) (ap (λ z. xs ++ z) (sym (append_assoc ys (at And k ∷ []) ts)) ∙ sym (append_assoc xs (ys ++ at And k ∷ []) ts)) (filled before_or (both k e o))

and_more : {d : ℕ} {us : List Lexeme} {a : Bool} (k : ℕ) → Filled d us a → Begun d (us ++ at And k ∷ []) (group a true)
and_more {d = d} {a = a} k (filled {xs = xs} {ys = ys} before_or e) =
    subst (λ (z : List Lexeme). Begun d z (group a true)) (sym (append_assoc xs ys (at And k ∷ []))) (begun before_or (up_to_and k e))

-- the group as a whole
filled_whole : {d : ℕ} {us : List Lexeme} {a : Bool} → Filled d us a → (m : Marker) × Denotes Disjunction d us m
filled_whole (filled {c = c} no_or e) = (c, alone e)
filled_whole {d = d} (filled {ys = ys} {c = c} (up_to_or {tokens = xs} {a = m} k e) f) =
    (grammar.Either m c, subst (λ (z : List Lexeme). Denotes Disjunction d z (grammar.Either m c)) (sym (append_assoc xs (at Or k ∷ []) ys)) (either k e f))

or_more : {d : ℕ} {us : List Lexeme} {a : Bool} (k : ℕ) → Filled d us a → Begun d (us ++ at Or k ∷ []) (group true false)
or_more {d = d} {us = us} k f =
    let whole = filled_whole f in
    subst (λ (z : List Lexeme). Begun d z (group true false)) (append-nil (us ++ at Or k ∷ [])) (begun (up_to_or k whole.1) no_and)

-- the innermost group has one token more
wanting_more : {d : ℕ} {outer : List Group} {inner : Group} {ps : List Lexeme} (n : ℕ) (taken : List Step) (us : List Lexeme) (x : Lexeme)
    → Around d outer ps → Begun d (us ++ x ∷ []) inner → IsRead ((ps ++ us) ++ x ∷ []) (before n outer inner taken)
wanting_more {outer = outer} {inner = inner} {ps = ps} n taken us x a b =
    subst (λ (z : List Lexeme). IsRead z (before n outer inner taken)) (sym (append_assoc ps us (x ∷ []))) (wanting a b)

having_more : {d : ℕ} {outer : List Group} {a : Bool} {ps : List Lexeme} (n : ℕ) (taken : List Step) (us : List Lexeme) (x : Lexeme)
    → Around d outer ps → Filled d (us ++ x ∷ []) a → IsRead ((ps ++ us) ++ x ∷ []) (behind n outer a taken)
having_more {outer = outer} {a = a} {ps = ps} n taken us x around f =
    subst (λ (z : List Lexeme). IsRead z (behind n outer a taken)) (sym (append_assoc ps us (x ∷ []))) (having around f)

close_more : {d : ℕ} {vs us : List Lexeme} {inner : Group} {a : Bool} (j k : ℕ) → Begun (suc d) vs inner → Filled d us a → Filled (suc d) (vs ++ (at Open j ∷ (us ++ at Close k ∷ []))) inner.has_alternatives
close_more j k b f = let whole = filled_whole f in operand_more b (enclosed j k whole.1)

-- one is closed
closed_more : (d n j k : ℕ) (outer : List Group) (inner : Group) (a : Bool) (taken : List Step) (ps vs us : List Lexeme) → Around (suc d) outer ps → Begun (suc d) vs inner → Filled d us a
    → IsRead (((ps ++ (vs ++ at Open j ∷ [])) ++ us) ++ at Close k ∷ []) (behind n outer inner.has_alternatives taken)
closed_more d n j k outer inner a taken ps vs us around b f =
    let moved : ps ++ (vs ++ (at Open j ∷ (us ++ at Close k ∷ []))) ≡ ((ps ++ (vs ++ at Open j ∷ [])) ++ us) ++ at Close k ∷ [] =
    ap (λ z. ps ++ z) (sym (append_assoc vs (at Open j ∷ []) (us ++ at Close k ∷ []))) ∙ sym (append_assoc ps (vs ++ at Open j ∷ []) (us ++ at Close k ∷ []))
    ∙ sym (append_assoc (ps ++ (vs ++ at Open j ∷ [])) us (at Close k ∷ [])) in
    subst (λ (z : List Lexeme). IsRead z (behind n outer inner.has_alternatives taken)) moved (having around (close_more j k b f))

-- the groups are those of a step that gave no fault
abbrev gives : OpenGroups → Result OpenGroups Misfit
gives s = Ok s

same_groups : (ls : List Lexeme) (s t : OpenGroups) → gives s ≡ gives t → IsRead ls s → IsRead ls t
same_groups ls s t is r = let same : s ≡ t = cc is in subst (λ (u : OpenGroups). IsRead ls u) same r

around_depth : {d : ℕ} {outer : List Group} {xs : List Lexeme} → Around d outer xs → d + length outer ≡ 100
around_depth top = refl
around_depth (inside k a b) = let rest = around_depth a in omega (arith, rest)

-- a parenthesis is opened
opened_more : (d n k : ℕ) (outer : List Group) (inner : Group) (taken : List Step) (ps us : List Lexeme) → length outer < 100 → Around d outer ps → Begun d us inner
    → IsRead ((ps ++ us) ++ at Open k ∷ []) (before n (inner ∷ outer) (group false false) taken)
opened_more zero n k outer inner taken ps us room a b = let full = around_depth a in absurd (omega (arith, full))
opened_more (suc d) n k outer inner taken ps us room a b =
    subst (λ (z : List Lexeme). IsRead z (before n (inner ∷ outer) (group false false) taken)) (append-nil (ps ++ (us ++ at Open k ∷ [])) ∙ sym (append_assoc ps us (at Open k ∷ []))) (wanting (inside k a b) (begun no_or no_and))

opened_by : (b : Bool) (d n k : ℕ) (outer : List Group) (inner : Group) (taken : List Step) (ps us : List Lexeme) (t : OpenGroups) (f : Misfit) → nat_lt (length outer) 100 ≡ b → Around d outer ps → Begun d us inner
    → (if b then Ok (before n (inner ∷ outer) (group false false) taken) else Err f) ≡ Ok t → IsRead ((ps ++ us) ++ at Open k ∷ []) t
opened_by true d n k outer inner taken ps us t f test a b is =
    let room : length outer < 100 = grind (arith, nat_tests) in same_groups _ _ t is (opened_more d n k outer inner taken ps us room a b)
opened_by false d n k outer inner taken ps us t f test a b is = cc is

step_read : {ls : List Lexeme} {s : OpenGroups} → IsRead ls s → (x : Token) (k : ℕ) (t : OpenGroups) → take_token s x k ≡ Ok t → IsRead (ls ++ at x k ∷ []) t
step_read (wanting {d = d} {n = n} {outer = outer} {inner = inner} {ps = ps} {us = us} {taken = taken} a b) Open k t is = opened_by (nat_lt (length outer) 100) d n k outer inner taken ps us t _ refl a b is
step_read (wanting {n = n} {us = us} a b) (Compares left o right) k t is = same_groups _ _ t is (having_more n _ us (at (Compares left o right) k) a (operand_more b (compared left o right k)))
step_read (wanting a b) Close k t is = cc is
step_read (wanting a b) And k t is = cc is
step_read (wanting a b) Or k t is = cc is
step_read (wanting a b) (Faulty f left) k t is = cc is
step_read (having {n = n} {us = us} a b) And k t is = same_groups _ _ t is (wanting_more n _ us (at And k) a (and_more k b))
step_read (having {n = n} {us = us} a b) Or k t is = same_groups _ _ t is (wanting_more n _ us (at Or k) a (or_more k b))
step_read (having top b) Close k t is = cc is
step_read (having {n = n} {us = us} (inside {d = d} {outer = outer} {inner = inner} {xs = ps} {ys = vs} j a c) b) Close k t is = same_groups _ _ t is (closed_more d n j k outer inner _ _ ps vs us a c b)
step_read (having a b) Open k t is = cc is
step_read (having a b) (Compares left o right) k t is = cc is
step_read (having a b) (Faulty f left) k t is = cc is

whole_read : {ls : List Lexeme} {s : OpenGroups} → IsRead ls s → (taken : List Step) → end_steps s ≡ Ok taken → IsDerived ls
whole_read (wanting a b) taken is = cc is
whole_read (having (inside k a c) b) taken is = cc is
whole_read (having top b) taken is = filled_whole b

after_token : (r : Result OpenGroups Misfit) (rest : List Lexeme) (taken : List Step) → unless_stray r (λ t. read_tokens t rest) ≡ Ok taken → (t : OpenGroups) × (r ≡ Ok t) × (read_tokens t rest ≡ Ok taken)
after_token (Ok t) rest taken is = (t, refl, is)
after_token (Err f) rest taken is = cc is

first_token : (s : OpenGroups) (x : Lexeme) (rest : List Lexeme) (taken : List Step) → read_tokens s (x ∷ rest) ≡ Ok taken → (t : OpenGroups) × (take_token s x.token x.left ≡ Ok t) × (read_tokens t rest ≡ Ok taken)
unfolding read_tokens
first_token s x rest taken is = after_token (take_token s x.token x.left) rest taken is

no_token : (s : OpenGroups) (taken : List Step) → read_tokens s [] ≡ Ok taken → end_steps s ≡ Ok taken
unfolding read_tokens
no_token s taken is = is

all_read : (rest ls : List Lexeme) (s : OpenGroups) (taken : List Step) → IsRead ls s → read_tokens s rest ≡ Ok taken → IsDerived (ls ++ rest)
all_read [] ls s taken r is = subst (λ (z : List Lexeme). IsDerived z) (sym (append-nil ls)) (whole_read r taken (no_token s taken is))
all_read (x ∷ rest) ls s taken r is =
    let next = first_token s x rest taken is in
    subst (λ (z : List Lexeme). IsDerived z) (append_assoc ls (x ∷ []) rest) (all_read rest (ls ++ x ∷ []) next.0 taken (step_read r x.token x.left next.0 next.1) next.2)

derived : (text : List ℕ) (taken : List Step) → marker_steps text ≡ Ok taken → IsDerived (lexemes 0 text)
unfolding marker_steps
derived text taken is = all_read (lexemes 0 text) [] _ taken (wanting {n = length text} {taken = []} top (begun no_or no_and)) is

pub read_steps_are_derived : ReadStepsAreDerived
read_steps_are_derived text taken is =
    let found = derived text taken is in
    let read_so : marker_steps text ≡ Ok (steps found.0) = steps_are_read text found.0 found.1 in
    let same : taken ≡ steps found.0 = cc (is, read_so) in
    (found.0, found.1, same)

pub read_markers_are_derived : ReadMarkersAreDerived
read_markers_are_derived text normal is =
    let found = marker_steps_of text normal is in
    let derived = read_steps_are_derived text found.0 found.1 in
    let read_so : marker text ≡ Ok (terms_text (terms derived.0)) = markers_are_read text derived.0 derived.1 in
    let same : normal ≡ terms_text (terms derived.0) = cc (is, read_so) in
    (derived.0, derived.1, same)

-- ---- from the steps

pub normal_steps : (text : List ℕ) (all : List Step) → marker_steps text ≡ Ok all → marker text ≡ Ok (terms_text (last_terms (terms_after_steps all [])))
unfolding marker
normal_steps text all is = ap normal_form is

fault_form : (found : Result (List Step) Misfit) (f : Misfit) → found ≡ Err f → normal_form found ≡ Err f
fault_form found f is = ap normal_form is

pub stray_steps : (text : List ℕ) (e : MarkerError) → IsMarkerFault (marker_steps text) e → IsMarkerFault (marker text) e
unfolding marker
stray_steps text (error.Invalid f position) is = fault_form (marker_steps text) _ is
stray_steps text error.OutOfMemory is = tt

-- the order of vectors, by what they hold
abbrev pub items_cmp : Vec ℕ → Vec ℕ → Ordering
items_cmp x y = slice_cmp nat_cmp x.items y.items

-- an insert is the same whether the vectors or what they hold are looked at
pub insert_items : (keys : List (Vec ℕ)) (k : Vec ℕ) → map (λ t. t.items) (insert_key items_cmp keys k) ≡ insert_key (slice_cmp nat_cmp) (map (λ t. t.items) keys) k.items
insert_items [] k = refl
insert_items (x ∷ xs) k =
    elim (slice_cmp nat_cmp k.items x.items) as (λ o. map (λ t. t.items) (match_ordering o (k ∷ x ∷ xs) (x ∷ xs) (x ∷ insert_key items_cmp xs k))
    ≡ match_ordering o (k.items ∷ x.items ∷ map (λ t. t.items) xs) (x.items ∷ map (λ t. t.items) xs) (x.items ∷ insert_key (slice_cmp nat_cmp) (map (λ t. t.items) xs) k.items))
    [ Less ↦ refl | Equal ↦ refl | Greater ↦ ap (λ rest. x.items ∷ rest) (insert_items xs k) ]

-- a string is moved from the second set to the first
pub insert_step : (terms terms' more more' : BTreeSet (Vec ℕ)) (t : Vec ℕ) (whole : List (List ℕ)) → terms'.keys ≡ insert_key items_cmp terms.keys t
    → more.keys ≡ t ∷ more'.keys → union (set_of terms) (set_of more) ≡ whole → union (set_of terms') (set_of more') ≡ whole
insert_step terms terms' more more' t whole inserted popped kept = rw inserted (rw insert_items (rw popped at kept))
