-- There is at most one answer to what is asked.
use Rattle.std.proofs.Common.{◌≡◌, inl, inr, ℕ, ◌∙◌, List, [], ◌∷◌, ◌++◌, map, Option, Some, refl, sym, ap, subst}
use Rattle.std.proofs.lemmas.Bool.{both_ways}
use Rattle.std.specs.List.{AllZip, filter}
use Rattle.pep440_version.specs.Changes.ChangeWords.{change_of}
use Rattle.pep440_pick.proofs.Once.{not_both_requirement, one_newest, one_requirement}
use Rattle.pep440_pick.proofs.Once as pick
use Rattle.pep440_pick.specs.Allowed.{lists_of}
use Rattle.pep440_pick.specs.Names.{is_name}
use Rattle.pep440_pick.specs.RequirementGrammar.{DerivesRequirement, Needed, RejectsRequirement}
use Rattle.pep440_rs.specs.Lists.ListErrorTexts.{list_rejection_text}
use Rattle.pep440_rs.specs.Lists.ListGrammar.{PieceRejection}
use Rattle.pep440_rs.specs.Matching.{list_matches}
use Rattle.pep440_rs.specs.Specifiers.{Spec}
use Rattle.pep440_rs.proofs.Arranging.Arranged.{one_arrangement_by}
use Rattle.pep440_rs.proofs.Reading.OneMeaning.{not_both_list, one_list, one_list_refusal}
use Rattle.pep440_version.specs.Changes.{Edit}
use Rattle.pep440_version.specs.ErrorTexts.{rejection_text}
use Rattle.pep440_version.specs.Grammar.{Derives}
use Rattle.pep440_version.specs.Print.{print}
use Rattle.pep440_version.specs.Record.{Record}
use Rattle.pep440_version.specs.Rejections.{Rejection, Rejects}
use Rattle.pep440_version.proofs.Reading.Agreement.{one_record}
use Rattle.pep440_version.proofs.Rejections.ExactlyOne.{not_both, one_refusal}
use Rattle.pep440_tool.specs.Answers.{DenotesChange, ReadsVersion, ReadsEach, ReadsList, RejectsChange, ToolAnswer, candidate_fault_text, shown_error, shown_list_error, shown, shown_lines}
use Rattle.pep440_tool.specs.Commands.{Show, Compare, Match, Edit as AskEdit, Range, Filter, Pick, Usage}
use Rattle.pep440_tool.specs.Lines.{LineDenotes, RejectsLine, ShowsContained, numbered_lines, shown_version_error}
use Rattle.pep440_tool.specs.Commands.{AnswerIsUnique}
use Rattle.pep440_tool.specs.Picks.{CandidateDenotes, PickAnswer, RejectsCandidate, ShowsNewest, newest_text, shown_requirement_error}

reads_once : (word : List ℕ) (P Q : Record → Type 0) (a b : ToolAnswer) → ((r : Record) → P r → Q r → a ≡ b) → ReadsVersion word P a → ReadsVersion word Q b → a ≡ b
reads_once word P Q a b same (inl (r, d, p)) (inl (q, e, u)) = same r p (subst Q (one_record word q r e d) u)
reads_once word P Q a b same (inl (r, d, p)) (inr (f, e, is)) = absurd (not_both word r f d e)
reads_once word P Q a b same (inr (f, d, is)) (inl (r, e, p)) = absurd (not_both word r f e d)
reads_once word P Q a b same (inr (f, d, is)) (inr (g, e, so)) = is ∙ ap (λ (x : Rejection). shown_error (rejection_text x)) (one_refusal word f g d e) ∙ sym so

reads_list_once : (word : List ℕ) (P Q : List Spec → Type 0) (a b : ToolAnswer) → ((l : List Spec) → P l → Q l → a ≡ b) → ReadsList word P a → ReadsList word Q b → a ≡ b
reads_list_once word P Q a b same (inl (l, d, p)) (inl (m, e, u)) = same l p (subst Q (one_list word m l e d) u)
reads_list_once word P Q a b same (inl (l, d, p)) (inr (f, e, is)) = absurd (not_both_list word l f d e)
reads_list_once word P Q a b same (inr (f, d, is)) (inl (l, e, p)) = absurd (not_both_list word l f e d)
reads_list_once word P Q a b same (inr (f, d, is)) (inr (g, e, so)) = is ∙ ap (λ (x : PieceRejection). shown_list_error (list_rejection_text x word)) (one_list_refusal word f g d e) ∙ sym so

-- ---- texts that mean something, one after another

module _ {A : Type 0} (Means : ℕ × List ℕ → A → Type 0) (means_once : (text : ℕ × List ℕ) (x y : A) → Means text x → Means text y → x ≡ y) where
  all_once : (texts : List (ℕ × List ℕ)) (found there : List A) → AllZip Means texts found → AllZip Means texts there → found ≡ there
  all_once [] [] [] h g = refl
  all_once [] [] (y ∷ there) h g = absurd g
  all_once [] (x ∷ found) there h g = absurd h
  all_once (t ∷ texts) [] there h g = absurd h
  all_once (t ∷ texts) (x ∷ found) [] h g = absurd g
  all_once (t ∷ texts) (x ∷ found) (y ∷ there) h g =
      let head = means_once t x y h.0 g.0 in
      let tail = all_once texts found there h.1 g.1 in
      λ i. head i ∷ tail i

head_same : {X : Type 0} (x y : X) (xs ys : List X) → x ∷ xs ≡ y ∷ ys → x ≡ y
head_same x y xs ys e = cc e

tail_same : {X : Type 0} (x y : X) (xs ys : List X) → x ∷ xs ≡ y ∷ ys → xs ≡ ys
tail_same x y xs ys e = cc e

module _ {A : Type 0} (Means : ℕ × List ℕ → A → Type 0) (R : ℕ × List ℕ → ToolAnswer → Type 0) (means_once : (text : ℕ × List ℕ) (x y : A) → Means text x → Means text y → x ≡ y)
    (rejected_once : (t : ℕ × List ℕ) (a b : ToolAnswer) → R t a → R t b → a ≡ b) (apart : (t : ℕ × List ℕ) (x : A) (a : ToolAnswer) → Means t x → R t a → ⊥) where
  -- the first rejected text is the same, however the texts are split
  first_once : (xs : List (ℕ × List ℕ)) (x : ℕ × List ℕ) (xa : List (ℕ × List ℕ)) (xf : List A) (a : ToolAnswer) (ys : List (ℕ × List ℕ)) (y : ℕ × List ℕ) (ya : List (ℕ × List ℕ)) (yf : List A) (b : ToolAnswer)
      → xs ++ (x ∷ xa) ≡ ys ++ (y ∷ ya) → AllZip Means xs xf → AllZip Means ys yf → R x a → R y b → a ≡ b
  first_once [] x xa xf a [] y ya yf b e h k w v = rejected_once x a b w (subst (λ t. R t b) (sym (head_same x y xa ya e)) v)
  first_once [] x xa xf a (z ∷ ys) y ya [] b e h k w v = absurd k
  first_once [] x xa xf a (z ∷ ys) y ya (q ∷ yf) b e h k w v = absurd (apart x q a (subst (λ t. Means t q) (sym (head_same x z xa (ys ++ (y ∷ ya)) e)) k.0) w)
  first_once (z ∷ xs) x xa [] a [] y ya yf b e h k w v = absurd h
  first_once (z ∷ xs) x xa (p ∷ xf) a [] y ya yf b e h k w v = absurd (apart y p b (subst (λ t. Means t p) (head_same z y (xs ++ (x ∷ xa)) ya e) h.0) v)
  first_once (z ∷ xs) x xa [] a (u ∷ ys) y ya yf b e h k w v = absurd h
  first_once (z ∷ xs) x xa (p ∷ xf) a (u ∷ ys) y ya [] b e h k w v = absurd k
  first_once (z ∷ xs) x xa (p ∷ xf) a (u ∷ ys) y ya (q ∷ yf) b e h k w v = first_once xs x xa xf a ys y ya yf b (tail_same z u (xs ++ (x ∷ xa)) (ys ++ (y ∷ ya)) e) h.1 k.1 w v

  -- texts that mean something, and then one that is rejected
  none_before : (texts before : List (ℕ × List ℕ)) (text : ℕ × List ℕ) (after : List (ℕ × List ℕ)) (found : List A) (a : ToolAnswer) → texts ≡ before ++ (text ∷ after) → AllZip Means texts found → R text a → ⊥
  none_before texts before text after found a split means why = go before found (subst (λ (ts : List (ℕ × List ℕ)). AllZip Means ts found) split means)
    where
      go : (before : List (ℕ × List ℕ)) (found : List A) → AllZip Means (before ++ (text ∷ after)) found → ⊥
      go [] [] h = h
      go [] (x ∷ found) h = apart text x a h.0 why
      go (t ∷ before) [] h = h
      go (t ∷ before) (x ∷ found) h = go before found h.1

  each_once : (texts : List (ℕ × List ℕ)) (P Q : List A → Type 0) (a b : ToolAnswer) → ((found : List A) → P found → Q found → a ≡ b) → ReadsEach Means R texts P a → ReadsEach Means R texts Q b → a ≡ b
  each_once texts P Q a b same (inl (x, h, p)) (inl (y, g, q)) = same x p (subst Q (all_once Means means_once texts y x g h) q)
  each_once texts P Q a b same (inl (x, h, p)) (inr t) = absurd (none_before texts t.before t.text t.after x b t.split h t.why)
  each_once texts P Q a b same (inr s) (inl (y, g, q)) = absurd (none_before texts s.before s.text s.after y a s.split g s.why)
  each_once texts P Q a b same (inr s) (inr t) = first_once s.before s.text s.after s.found a t.before t.text t.after t.found b (sym s.split ∙ t.split) s.means t.means s.why t.why

-- ---- changes

some_same : (x y : Edit) (o : Option Edit) → o ≡ Some x → o ≡ Some y → x ≡ y
some_same x y o e f = cc (e, f)

change_once : (word : ℕ × List ℕ) (x y : Edit) → DenotesChange word x → DenotesChange word y → x ≡ y
change_once word x y h g = some_same x y (change_of word.1) h g

change_rejected_once : (word : ℕ × List ℕ) (a b : ToolAnswer) → RejectsChange word a → RejectsChange word b → a ≡ b
change_rejected_once word a b h g = h.1 ∙ sym g.1

change_apart : (word : ℕ × List ℕ) (x : Edit) (a : ToolAnswer) → DenotesChange word x → RejectsChange word a → ⊥
change_apart word x a h g = let none = g.0 in cc (h, none)

-- ---- candidates

candidate_rejected_once : (t : ℕ × List ℕ) (a b : ToolAnswer) → RejectsCandidate t a → RejectsCandidate t b → a ≡ b
candidate_rejected_once t a b (f, d, is) (g, e, so) = is ∙ ap (λ x. shown_error (candidate_fault_text t.0 (rejection_text x))) (one_refusal t.1 f g d e) ∙ sym so

candidate_apart : (t : ℕ × List ℕ) (r : Record) (a : ToolAnswer) → CandidateDenotes t r → RejectsCandidate t a → ⊥
candidate_apart t r a d (f, e, is) = not_both t.1 r f d e

-- ---- lines

module _ {A F : Type 0} (Means : List ℕ → A → Type 0) (Refuse : List ℕ → F → Type 0) (answer_at : ℕ → F → ToolAnswer) (one_refused : (t : List ℕ) (f g : F) → Refuse t f → Refuse t g → f ≡ g)
    (never_both : (t : List ℕ) (x : A) (f : F) → Means t x → Refuse t f → ⊥) where
  line_rejected_once : (t : ℕ × List ℕ) (a b : ToolAnswer) → RejectsLine Refuse answer_at t a → RejectsLine Refuse answer_at t b → a ≡ b
  line_rejected_once t a b (inl x) (inl y) = x.1 ∙ sym y.1
  line_rejected_once t a b (inl x) (inr (utf8, y)) = absurd (x.0 utf8)
  line_rejected_once t a b (inr (utf8, x)) (inl y) = absurd (y.0 utf8)
  line_rejected_once t a b (inr (utf8, (f, d, is))) (inr (again, (g, e, so))) = is ∙ ap (answer_at t.0) (one_refused t.1 f g d e) ∙ sym so

  line_apart : (t : ℕ × List ℕ) (x : A) (a : ToolAnswer) → LineDenotes Means t x → RejectsLine Refuse answer_at t a → ⊥
  line_apart t x a h (inl other) = other.0 h.0
  line_apart t x a h (inr (utf8, (f, d, is))) = never_both t.1 x f h.1 d

-- ---- answers

contained_once : (list : List Spec) (found : List Record) (a b : ToolAnswer) → ShowsContained list found a → ShowsContained list found b → a ≡ b
contained_once list found a b (x, h, is) (y, g, so) = is ∙ ap (λ (rs : List Record). shown_lines (map print rs)) (one_arrangement_by (λ (r : Record). r) (filter (list_matches list) found) x y h g) ∙ sym so

newest_once : (name : List ℕ) (candidates : List Record) (found : List Needed) (a b : ToolAnswer) → ShowsNewest name candidates found a → ShowsNewest name candidates found b → a ≡ b
newest_once name candidates found a b (i, n, is) (j, m, so) = is ∙ ap (λ (k : Option ℕ). shown (newest_text candidates k)) (one_newest (lists_of name found) candidates i j n m) ∙ sym so

pick_once : (name : List ℕ) (texts : List (List ℕ)) (input : List ℕ) (a b : ToolAnswer) → PickAnswer name texts input a → PickAnswer name texts input b → a ≡ b
pick_once name texts input a b (inl h) (inl g) = h.1 ∙ sym g.1
pick_once name texts input a b (inl h) (inr g) = absurd (both_ways (is_name name) h.0 g.0)
pick_once name texts input a b (inr h) (inl g) = absurd (both_ways (is_name name) g.0 h.0)
pick_once name texts input a b (inr h) (inr g) =
    each_once CandidateDenotes RejectsCandidate (λ t x y. one_record t.1 x y) candidate_rejected_once candidate_apart _ _ _ a b
    (λ candidates p q. each_once (LineDenotes DerivesRequirement) (RejectsLine RejectsRequirement shown_requirement_error) (λ t x y k l. one_requirement t.1 x y k.1 l.1)
    (line_rejected_once DerivesRequirement RejectsRequirement shown_requirement_error pick.one_refusal not_both_requirement) (line_apart DerivesRequirement RejectsRequirement shown_requirement_error pick.one_refusal not_both_requirement)
    (numbered_lines input) _ _ a b (λ found x y. newest_once name candidates found a b x y) p q) h.1 g.1

pub answers_once : AnswerIsUnique
answers_once (Show v) input a b = reads_once v _ _ a b (λ r p q. p ∙ sym q)
answers_once (Compare v w) input a b = reads_once v _ _ a b (λ r p q. reads_once w _ _ a b (λ s x y. x ∙ sym y) p q)
answers_once (Match list v) input a b = reads_list_once list _ _ a b (λ l p q. reads_once v _ _ a b (λ r x y. x ∙ sym y) p q)
answers_once (AskEdit v changes) input a b =
    reads_once v _ _ a b (λ r p q. each_once DenotesChange RejectsChange change_once change_rejected_once change_apart _ _ _ a b (λ edits x y. x ∙ sym y) p q)
answers_once (Range list) input a b = reads_list_once list _ _ a b (λ l p q. p ∙ sym q)
answers_once (Filter list) input a b =
    reads_list_once list _ _ a b (λ l p q. each_once (LineDenotes Derives) (RejectsLine Rejects shown_version_error) (λ t x y h g. one_record t.1 x y h.1 g.1) (line_rejected_once Derives Rejects shown_version_error one_refusal not_both)
    (line_apart Derives Rejects shown_version_error one_refusal not_both) (numbered_lines input) _ _ a b (λ found x y. contained_once l found a b x y) p q)
answers_once (Pick name texts) input a b = pick_once name texts input a b
answers_once Usage input a b = λ p q. p ∙ sym q
