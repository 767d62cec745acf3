-- What reading gives of a list's text is what the grammar says, and the other way round.
use Rattle.std.proofs.Common.{◌≡◌, ◌==◌, ◌<◌, ◌+◌, ◌∙◌, ℕ, List, [], ◌∷◌, ◌++◌, false, Option, Some, None, Result, Ok, Err, length, refl, sym, ap, subst, arith, inl, inr}
use Rattle.std.proofs.lemmas.Bool.Decides.{nat_tests}
use Rattle.std.proofs.lemmas.List.Sums.{sum_by-append}
use Rattle.std.specs.List.{AllZip}
use Rattle.std.specs.Prelude.{IfErr, IfOk, IfSome, sum_by}
use Rattle.pep440_rs.specs.Arrangement.{Arranges}
use Rattle.pep440_rs.specs.Lists.ListResults.{ReturnsList, ListReads, list_kind_of}
use Rattle.pep440_rs.specs.Lists.ListErrors.{list_rejection_of}
use Rattle.pep440_rs.specs.Lists.ListGrammar.{DerivesList, PieceRejection, RejectsList, pieces}
use Rattle.pep440_rs.specs.Lists.ListReading.{after_piece, read_members, read_pieces}
use Rattle.pep440_rs.specs.Specifiers.SpecifierGrammar.{DerivesSpecifier, RejectsSpecifier, SpecifierRejection}
use Rattle.pep440_rs.specs.Specifiers.SpecifierReading.{read_specifier}
use Rattle.pep440_rs.specs.Specifiers.{Spec}
use Rattle.pep440_rs.specs.declared.list.error.VersionSpecifiersParseError.{VersionSpecifiersParseError}
use Rattle.pep440_rs.proofs.Reading.Answered.{told_by}
use Rattle.pep440_rs.proofs.Arranging.Arranged.{arranged_again, one_arrangement}
use Rattle.pep440_rs.proofs.Reading.Pieces.{members_from}
use Rattle.pep440_rs.proofs.Reading.Tells.{Tells, decides, tells}

abbrev pub DerivesEach : List (List ℕ) → List Spec → Type 0
DerivesEach ps members = AllZip DerivesSpecifier ps members

-- how many bytes the pieces take, each with the comma after it
abbrev pub bytes_of : List (List ℕ) → ℕ
bytes_of [] = 0
bytes_of (p ∷ rest) = length p + 1 + bytes_of rest

bytes_are : (ps : List (List ℕ)) → sum_by (λ p. length p + 1) ps ≡ bytes_of ps
bytes_are [] = refl
bytes_are (p ∷ rest) = sum_by-append (λ q. length q + 1) (p ∷ []) rest ∙ (λ i. from_zero (length p + 1) i + bytes_are rest i)
  where
    from_zero : (n : ℕ) → 0 + n ≡ n
    from_zero n = omega arith

-- the first refused piece, where the first of all begins at k
pub record FirstRefused (k : ℕ) (ps : List (List ℕ)) (f : PieceRejection) : Type 0 where
  pub before : List (List ℕ)
  pub piece : List ℕ
  pub after : List (List ℕ)
  pub split : ps ≡ before ++ (piece ∷ after)
  pub members : List Spec
  pub derived : DerivesEach before members
  pub refused : RejectsSpecifier piece f.error
  pub start : f.start ≡ k + bytes_of before
  pub stop : f.stop ≡ f.start + length piece

abbrev pub PiecesTell : ℕ → List (List ℕ) → Result (List Spec) PieceRejection → Type 0
PiecesTell k ps (Ok members) = DerivesEach ps members
PiecesTell k ps (Err f) = FirstRefused k ps f

first_tells : (k : ℕ) (p : List ℕ) (ps : List (List ℕ)) (x : Result Spec SpecifierRejection) (y : Result (List Spec) PieceRejection) → Tells p x → PiecesTell (k + length p + 1) ps y → PiecesTell k (p ∷ ps) (after_piece k p x y)
first_tells k p ps (Err f) y h g = record { before = []; piece = p; after = ps; split = refl; members = []; derived = tt; refused = h; start = omega arith; stop = refl }
first_tells k p ps (Ok s) (Ok rest) h g = (h, g)
first_tells k p ps (Ok s) (Err f) h g = record {
  before = p ∷ g.before;
  piece = g.piece;
  after = g.after;
  split = ap (λ l. p ∷ l) g.split;
  members = s ∷ g.members;
  derived = (h, g.derived);
  refused = g.refused;
  start = later_start k (length p) (bytes_of g.before) f.start g.start;
  stop = g.stop;
}
  where
    later_start : (k n s start : ℕ) → start ≡ k + n + 1 + s → start ≡ k + (n + 1 + s)
    later_start k n s start e = omega (arith, e)

pieces_tell : (k : ℕ) (ps : List (List ℕ)) → PiecesTell k ps (read_pieces k ps)
unfolding read_pieces
pieces_tell k [] = tt
pieces_tell k (p ∷ ps) = first_tells k p ps (read_specifier p) (read_pieces (k + length p + 1) ps) (tells p) (pieces_tell (k + length p + 1) ps)

derived_read : (k : ℕ) (ps : List (List ℕ)) (members : List Spec) → DerivesEach ps members → read_pieces k ps ≡ Ok members
unfolding read_pieces
derived_read k [] [] h = refl
derived_read k [] (s ∷ list) h = elim h [ ]
derived_read k (p ∷ ps) [] h = elim h [ ]
derived_read k (p ∷ ps) (s ∷ list) h = λ i. after_piece k p (decides p (Ok s) h.0 i) (derived_read (k + length p + 1) ps list h.1 i)

refused_read : (k : ℕ) (before : List (List ℕ)) (members : List Spec) (piece : List ℕ) (after : List (List ℕ)) (f : PieceRejection) → DerivesEach before members → RejectsSpecifier piece f.error
    → f.start ≡ k + bytes_of before → f.stop ≡ f.start + length piece → read_pieces k (before ++ (piece ∷ after)) ≡ Err f
unfolding read_pieces
refused_read k [] [] piece after f each refused start stop =
    let begins : k ≡ f.start = omega (arith, start) in
    let ends : k + length piece ≡ f.stop = omega (arith, start, stop) in
    ap (λ x. after_piece k piece x (read_pieces (k + length piece + 1) after)) (decides piece (Err f.error) refused) ∙ (λ i. Err (record { error = f.error; start = begins i; stop = ends i }))
refused_read k [] (s ∷ list) piece after f each refused start stop = elim each [ ]
refused_read k (p ∷ before) [] piece after f each refused start stop = elim each [ ]
refused_read k (p ∷ before) (s ∷ list) piece after f each refused start stop =
    let later = refused_read (k + length p + 1) before list piece after f each.1 refused (moved k (length p) (bytes_of before) f.start start) stop in
    λ i. after_piece k p (decides p (Ok s) each.0 i) (later i)
  where
    moved : (k n s start : ℕ) → start ≡ k + (n + 1 + s) → start ≡ k + n + 1 + s
    moved k n s start e = omega (arith, e)

some_bytes : (b : ℕ) (t : List ℕ) → (length (b ∷ t) == 0) ≡ false
some_bytes b t = grind (arith, nat_tests)

nothing_read : (members list : List Spec) (read : Result (List Spec) PieceRejection) → read ≡ Ok [] → read ≡ Ok members → Arranges members list → list ≡ []
nothing_read members list read none e h =
    let same : members ≡ [] = cc in
    one_arrangement [] list [] (subst (λ m. Arranges m list) same h) (arranged_again [] (λ k d low high. absurd (omega (arith, high))))

pub list_found : (text : List ℕ) (list : List Spec) → (members : List Spec) → read_members text ≡ Ok members → Arranges members list → DerivesList text list
list_found [] list members e h = inl (refl, nothing_read members list (read_members []) refl e h)
list_found (b ∷ t) list members e h =
    inr (omega arith, members, subst (PiecesTell 0 (pieces (b ∷ t))) (sym (members_from (b ∷ t) (some_bytes b t)) ∙ e) (pieces_tell 0 (pieces (b ∷ t))), h)

nonempty : (text : List ℕ) → 0 < length text → (length text == 0) ≡ false
nonempty [] some = absurd (omega (arith, some))
nonempty (b ∷ t) some = some_bytes b t

pub derived_members : (text : List ℕ) (list : List Spec) → DerivesList text list → (m : List Spec) × (read_members text ≡ Ok m) × Arranges m list
derived_members text list (inl h) = ([], ap read_members h.0, subst (λ l. Arranges [] l) (sym h.1) (arranged_again [] (λ k d low high. absurd (omega (arith, high)))))
derived_members text list (inr (some, members, each, h)) = (members, members_from text (nonempty text some) ∙ derived_read 0 (pieces text) members each, h)

pub list_refusal : (text : List ℕ) (f : PieceRejection) → read_members text ≡ Err f → RejectsList text f
list_refusal [] f e = cc e
list_refusal (b ∷ t) f e =
    let x : FirstRefused 0 (pieces (b ∷ t)) f = subst (PiecesTell 0 (pieces (b ∷ t))) (sym (members_from (b ∷ t) (some_bytes b t)) ∙ e) (pieces_tell 0 (pieces (b ∷ t))) in
    record {
      some = omega arith;
      before = x.before;
      piece = x.piece;
      after = x.after;
      split = x.split;
      members = x.members;
      derived = x.derived;
      refused = x.refused;
      start = from_zero (bytes_of x.before) f.start x.start ∙ sym (bytes_are x.before);
      stop = x.stop;
    }
  where
    from_zero : (s start : ℕ) → start ≡ 0 + s → start ≡ s
    from_zero s start e = omega (arith, e)

pub list_decides : (text : List ℕ) (f : PieceRejection) → RejectsList text f → read_members text ≡ Err f
list_decides text f h =
    members_from text (nonempty text h.some) ∙ ap (read_pieces 0) h.split
    ∙ refused_read 0 h.before h.members h.piece h.after f h.derived h.refused (to_zero (bytes_of h.before) f.start (h.start ∙ bytes_are h.before)) h.stop
  where
    to_zero : (s start : ℕ) → start ≡ s → start ≡ 0 + s
    to_zero s start e = omega (arith, e)

-- ---- what follows for the reader's answer

pub is_list_found : (text : List ℕ) (result : Result (List Spec) VersionSpecifiersParseError) → ListReads result (read_members text) → IfOk result (λ list. DerivesList text list)
is_list_found text (Ok list) (members, e, h) = list_found text list members e h
is_list_found text (Err error) h = tt

answers_from : (o : Option PieceRejection) (read out : Result (List Spec) PieceRejection) → ((f : PieceRejection) → read ≡ Err f → out ≡ Err f) → IfSome o (λ f. read ≡ Err f) → IfSome o (λ f. out ≡ Err f)
answers_from None read out all h = tt
answers_from (Some f) read out all h = all f h

pub is_list_only : (text : List ℕ) (result : Result (List Spec) VersionSpecifiersParseError) → ListReads result (read_members text) → (list : List Spec) → DerivesList text list → ReturnsList result (Ok list)
is_list_only text (Ok x) (members, e, h) list d =
    let there = derived_members text list d in
    let same : members ≡ there.0 = cc (e, there.1) in
    ap Ok (one_arrangement there.0 list x there.2 (subst (λ m. Arranges m x) same h))
is_list_only text (Err error) h list d =
    let there = derived_members text list d in
    answers_from (list_rejection_of (list_kind_of error)) (read_members text) (Ok list) (λ f e. cc (e, there.1)) h

pub is_list_refused : (text : List ℕ) (result : Result (List Spec) VersionSpecifiersParseError) → ListReads result (read_members text)
    → IfErr result (λ e. IfSome (list_rejection_of (list_kind_of e)) (RejectsList text))
is_list_refused text (Ok list) h = tt
is_list_refused text (Err error) h = told_by (list_rejection_of (list_kind_of error)) (read_members text) (RejectsList text) (list_refusal text) h

pub is_list_decided : (text : List ℕ) (result : Result (List Spec) VersionSpecifiersParseError) → ListReads result (read_members text) → (f : PieceRejection) → RejectsList text f → ReturnsList result (Err f)
is_list_decided text (Ok list) (members, e, h) f refused = let there = list_decides text f refused in cc (e, there)
is_list_decided text (Err error) h f refused = let there = list_decides text f refused in subst (λ x. IfSome (list_rejection_of (list_kind_of error)) (λ g. x ≡ Err g)) there h
