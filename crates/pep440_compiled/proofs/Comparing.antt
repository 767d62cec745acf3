-- Versions in order by the parts of their sort keys.
use Rattle.std.proofs.Common.{◌≡◌, ◌∙◌, ◌==◌, ◌&&◌, ℕ, refl, sym, ap, arith, inl, inr, Bool, true, false, not, List, [], ◌∷◌, ◌++◌, length, nat_eq, ◌-◌, append_assoc, nat_lt, ◌+◌, ◌<◌, take, get_or}
use Rattle.std.proofs.lemmas.Bool.{cases_Bool, not-false, eqb-true, le-ltb, lt-ltb, ne_eqb, cases_eq}
use Rattle.std.proofs.lemmas.Bool.Decides.{nat_tests}
use Rattle.std.proofs.lemmas.List.{append-nil, length-append, length-map}
use Rattle.std.specs.Cmp.Lexicographic.{pointwise, slice_cmp}
use Rattle.std.specs.Ordering.{is_eq, nat_cmp, ordering_then}
use Rattle.std.specs.List.{starts_with, flat_map, AllByRecursion}
use Rattle.std.specs.Prelude.{drop, if◌then◌else◌, replicate}
use Rattle.std.specs.declared.cmp.Ordering.{Ordering}
use Rattle.std.specs.declared.cmp.Ordering.TheVariants.{Equal}
use Rattle.pep440_compiled.proofs.Fronts.{both_tie, keyed, public_cmp, public_in_order, same_bytes, same_release_bytes, tied_last, none_continue, IsTrimmed, none_needed, numbers_code, some_needed, prefix_by_bytes, last_taken, number_more, trim_pad, trimmed_zeros, zero_more}
use Rattle.pep440_compiled.proofs.Suffixes.{no_local_left}
use Rattle.pep440_compiled.specs.KeyParts.{base_bytes, continues_with_zeros, ending_zeros, public_bytes, suffix_bytes}
use Rattle.pep440_compiled.specs.KeyViews.{HasKey, IsDecided}
use Rattle.pep440_version.specs.RoundTrip.{IsParsed}
use Rattle.pep440_compiled.specs.declared.views.KeyView.{KeyView}
use Rattle.pep440_keys.proofs.Order.{keys_in_order}
use Rattle.pep440_keys.specs.SortKeys.{key_bytes, local_bytes, number_bytes, rank_bytes, segment_bytes, needed_bytes}
use Rattle.pep440_rs.specs.Matching.{candidate, has_local, has_prefix, same_release, without_last}
use Rattle.pep440_version.specs.Key.{record_cmp, release_cmp, dev_rank, key, post_rank, stage_rank}
use Rattle.pep440_version.specs.Record.{LocalSegmentValue, Record, Fits}
use Rattle.pep440_compiled.specs.Version.{version_bytes, zero_bytes}
use Rattle.pep440_keys.proofs.Codes.{segment_opens}
use Rattle.pep440_version.specs.Key.Trim.{trim}
use Rattle.std.proofs.Math.Seq.{take-append_seam}

regroup : (n f s p d l w : List ℕ) → (n ++ (f ++ 0 ∷ []) ++ s ++ p ++ d ++ l) ++ w ≡ (n ++ f) ++ 0 ∷ ((s ++ (p ++ d)) ++ (l ++ w))
regroup n f s p d l w = simp append_assoc

regroup_public : (n f s p d l : List ℕ) → n ++ (f ++ 0 ∷ []) ++ s ++ p ++ d ++ l ≡ ((n ++ f) ++ 0 ∷ (s ++ (p ++ d))) ++ l
regroup_public n f s p d l = simp append_assoc

pub key_split : (r : Record) (w : List ℕ) → key_bytes r ++ w ≡ base_bytes r.epoch r.release ++ 0 ∷ (suffix_bytes r ++ (local_bytes r.local ++ w))
key_split r w =
    regroup (number_bytes 0 r.epoch) (flat_map (number_bytes 1) (trim r.release)) (rank_bytes (stage_rank (key r).stage)) (rank_bytes (post_rank (key r).post)) (rank_bytes (dev_rank (key r).dev)) (local_bytes r.local) w

pub version_split : (r : Record) (rest : List ℕ) → version_bytes r ++ rest ≡ base_bytes r.epoch r.release ++ 0 ∷ (suffix_bytes r ++ (local_bytes r.local ++ (zero_bytes r.release ++ rest)))
version_split r rest = append_assoc (key_bytes r) (zero_bytes r.release) rest ∙ key_split r (zero_bytes r.release ++ rest)

pub key_public : (r : Record) → key_bytes r ≡ public_bytes r ++ local_bytes r.local
key_public r =
    regroup_public (number_bytes 0 r.epoch) (flat_map (number_bytes 1) (trim r.release)) (rank_bytes (stage_rank (key r).stage)) (rank_bytes (post_rank (key r).post)) (rank_bytes (dev_rank (key r).dev)) (local_bytes r.local)

-- the last byte of a key is 0
pub key_ends : (r : Record) → key_bytes r ≡ (public_bytes r ++ flat_map segment_bytes r.local) ++ 0 ∷ []
key_ends r = key_public r ∙ sym (append_assoc (public_bytes r) (flat_map segment_bytes r.local) (0 ∷ []))

pub zeros_length : (release : List ℕ) → length (zero_bytes release) ≡ ending_zeros release
zeros_length release = length-map (drop (length (trim release)) release) (λ n. 1)

-- a local part that is not empty has more than its last byte
pub local_flag : (local : List LocalSegmentValue) (a b : List ℕ) → a ≡ local_bytes local ++ b → nat_lt 1 (length a - length b) ≡ not (length local == 0)
local_flag [] a b e = le-ltb 1 (length a - length b) (omega (arith, ap length e))
local_flag (s ∷ local) a b e =
    let o = segment_opens s in
    lt-ltb 1 (length a - length b)
    (omega (arith, ap length e, length-append (local_bytes (s ∷ local)) b, length-append (segment_bytes s ++ flat_map segment_bytes local) (0 ∷ []), length-append (segment_bytes s) (flat_map segment_bytes local), ap length o.is))
    ∙ sym (ap not (ne_eqb (length (s ∷ local)) 0 (λ z. omega (arith, z))))

-- ---- all but the local part

pub without_locals : (v s : Record) → IsParsed v → IsParsed s → slice_cmp nat_cmp (public_bytes v) (public_bytes s) ≡ public_cmp v s
without_locals v s q p =
    (λ i. slice_cmp nat_cmp (sym (append-nil (public_bytes v)) i) (sym (append-nil (public_bytes s)) i))
    ∙ public_in_order v s q p [] []
    ∙ tied_last (public_cmp v s)

-- ---- the candidate

pub with_local : (s v : Record) → IsParsed s → IsParsed v → has_local s ≡ true → slice_cmp nat_cmp (key_bytes v) (key_bytes s) ≡ record_cmp (candidate s v) s
with_local s v p q h = keys_in_order v s (keyed v q) (keyed s p) ∙ sym (ap (λ (b : Bool). record_cmp (if b then v else record v { local = [] }) s) h)

empty : (l : List LocalSegmentValue) → not (length l == 0) ≡ false → l ≡ []
empty [] e = refl
empty (x ∷ l) e = absurd (omega (arith, eqb-true (length (x ∷ l)) 0 (not-false (length (x ∷ l) == 0) e)))

pub without_local : (s v : Record) → has_local s ≡ false → public_cmp v s ≡ record_cmp (candidate s v) s
without_local s v h =
    ap (λ (l : List LocalSegmentValue). record_cmp (record v { local = [] }) (record s { local = l })) (sym (empty s.local h))
    ∙ sym (ap (λ (b : Bool). record_cmp (if b then v else record v { local = [] }) s) h)

without : (s v : Record) (b : Bool) → v.local ≡ [] → v ≡ (if b then v else record v { local = [] })
without s v true e = refl
without s v false e = ap (λ (l : List LocalSegmentValue). record v { local = l }) e

pub same_candidate : (s v : Record) → has_local v ≡ false → record_cmp v s ≡ record_cmp (candidate s v) s
same_candidate s v h = ap (λ r. record_cmp r s) (without s v (has_local s) (empty v.local h))

pub no_locals : (s v : Record) → IsParsed s → IsParsed v → has_local v ≡ false → slice_cmp nat_cmp (key_bytes v) (key_bytes s) ≡ record_cmp (candidate s v) s
no_locals s v p q h = keys_in_order v s (keyed v q) (keyed s p) ∙ same_candidate s v h

-- versions that tie have one local part
tied_candidate : (s v : Record) → IsParsed s → IsParsed v → record_cmp v s ≡ Equal → record_cmp v s ≡ record_cmp (candidate s v) s
tied_candidate s v p q e =
    let both = sym (public_in_order v s q p (local_bytes v.local) (local_bytes s.local)) ∙ (λ i. slice_cmp nat_cmp (sym (key_public v) i) (sym (key_public s) i)) ∙ keys_in_order v s (keyed v q) (keyed s p) ∙ e in
    let same = same_bytes (local_bytes v.local) (local_bytes s.local) (both_tie _ _ both).1 in
    elim (cases_Bool (has_local s)) [
      | inl h ↦ ap (λ (b : Bool). record_cmp (if b then v else record v { local = [] }) s) (sym h)
      | inr h ↦ same_candidate s v (ap (λ l. not (length l == 0)) (no_local_left v.local [] [] (sym (append-nil (local_bytes v.local) ∙ same ∙ ap local_bytes (empty s.local h)))).0)
    ]

pub same_keys : (s v : Record) → IsParsed s → IsParsed v → record_cmp v s ≡ Equal → key_bytes v ≡ key_bytes s
same_keys s v p q e = same_bytes _ _ (keys_in_order v s (keyed v q) (keyed s p) ∙ e)

-- ---- where the order decides

pub decided_by_tie : (s v : Record) (view : KeyView) (order : Ordering) → IsParsed s → HasKey view v → order ≡ record_cmp v s → order ≡ Equal → IsDecided order s v
decided_by_tie s v view order p k o e = record { found = o ∙ tied_candidate s v p k.parsed (sym o ∙ e); alone = inl e }

pub decided_by_order : (s v : Record) (view : KeyView) (order : Ordering) → HasKey view v → order ≡ record_cmp v s → view.is_final ≡ true → IsDecided order s v
decided_by_order s v view order k o f =
    let final = k.final f in
    record { found = o ∙ same_candidate s v final.local; alone = inr final }

-- ---- the release

eq_then : (a b : ℕ) (o : Ordering) → is_eq (ordering_then (nat_cmp a b) o) ≡ (a == b) && is_eq o
eq_then a b o = grind (arith, nat_tests)

pub key_front : (v : Record) → key_bytes v ≡ base_bytes v.epoch v.release ++ 0 ∷ (suffix_bytes v ++ local_bytes v.local)
key_front v = sym (append-nil (key_bytes v)) ∙ key_split v [] ∙ ap (λ l. base_bytes v.epoch v.release ++ 0 ∷ (suffix_bytes v ++ l)) (append-nil (local_bytes v.local))

pub release_test : (s v : Record) → IsParsed s → IsParsed v → pointwise nat_eq (base_bytes v.epoch v.release ++ 0 ∷ []) (base_bytes s.epoch s.release ++ 0 ∷ []) ≡ same_release s v
release_test s v p q = same_release_bytes s v p q ∙ eq_then v.epoch s.epoch (release_cmp v.release s.release)

-- ---- releases that do not end in zeros

and_true : (a b : Bool) → b ≡ true → a && b ≡ a
and_true true b e = e
and_true false b e = refl

pub begins_by_base : (s v : Record) → IsParsed s → IsParsed v → ending_zeros s.release ≡ 0 → (w : List ℕ)
    → starts_with nat_eq (base_bytes v.epoch v.release ++ 0 ∷ w) (base_bytes s.epoch s.release) ≡ has_prefix s s.release v
begins_by_base s v p q z w =
    let bytes = base_bytes v.epoch v.release ++ 0 ∷ w in
    let front = base_bytes s.epoch s.release in
    sym (and_true (starts_with nat_eq bytes front) (continues_with_zeros (ending_zeros s.release) (drop (length front) bytes)) (ap (λ n. continues_with_zeros n (drop (length front) bytes)) z ∙ none_continue (drop (length front) bytes)))
    ∙ prefix_by_bytes s.epoch s.release v.epoch v.release w p.valid.epoch p.valid.release q.valid.epoch q.valid.release

-- ---- What a loop over the numbers of a release counts: where the last one that is not 0 ends, and how many zeros follow it

-- the numbers that were seen, and those that are left
pub record Seen (epoch : ℕ) (numbers left : List ℕ) (end ending : ℕ) : Type 0 where
  pub seen : List ℕ
  pub more : List ℕ
  pub split : numbers ≡ seen ++ more
  pub some : 0 < length more
  pub fit : AllByRecursion Fits more
  pub bytes : left ≡ numbers_code more
  pub count : end ≡ length (base_bytes epoch seen)
  pub zeros : ending ≡ ending_zeros seen

abbrev pub Counts : List ℕ → List ℕ → ℕ → ℕ → Type 0
Counts front left count ending = (epoch : ℕ) (numbers : List ℕ) → 0 < length numbers → AllByRecursion Fits numbers → front ≡ number_bytes 0 epoch ++ numbers_code numbers → Seen epoch numbers left count ending

pub none_seen : (front left : List ℕ) → ((epoch : ℕ) (numbers : List ℕ) → front ≡ number_bytes 0 epoch ++ numbers_code numbers → left ≡ numbers_code numbers) → Counts front left (length front - length left) 0
none_seen front left is epoch numbers some fit e =
    let bytes = is epoch numbers e in
    record {
      seen = [];
      more = numbers;
      split = refl;
      some = some;
      fit = fit;
      bytes = bytes;
      count = omega (arith, ap length e, ap length bytes, length-append (number_bytes 0 epoch) (numbers_code numbers), ap length (append-nil (number_bytes 0 epoch)));
      zeros = refl;
    }

-- ---- one number

pub record First (first : ℕ) (later ys : List ℕ) : Type 0 where
  pub number : ℕ
  pub more : List ℕ
  pub fits : Fits number
  pub fit : AllByRecursion Fits more
  pub split : ys ≡ number ∷ more
  pub count : first ≡ 1 + length (needed_bytes number)
  pub bytes : later ≡ needed_bytes number ++ numbers_code more

pub first_number : (first : ℕ) (left later ys : List ℕ) → AllByRecursion Fits ys → left ≡ first ∷ later → left ≡ numbers_code ys → First first later ys
first_number first left later [] fit e f = absurd (omega (arith, ap length (sym e ∙ f)))
first_number first left later (y ∷ ys) fit e f = record {
  number = y;
  more = ys;
  fits = fit.0;
  fit = fit.1;
  split = refl;
  count = ap (λ l. get_or l 0 0) (sym e ∙ f);
  bytes = ap (drop 1) (sym e ∙ f);
}

pub none_left : (ys : List ℕ) (left : List ℕ) → left ≡ numbers_code ys → length left ≡ 0 → 0 < length ys → ⊥
none_left [] left e n some = omega (arith, some)
none_left (y ∷ ys) left e n some = omega (arith, ap length e, n)

nothing : (ys : List ℕ) (left : List ℕ) → left ≡ numbers_code ys → length left ≡ 0 → ys ≡ []
nothing [] left e n = refl
nothing (y ∷ ys) left e n = absurd (omega (arith, ap length e, n))

some_more : (ys : List ℕ) (left : List ℕ) → left ≡ numbers_code ys → (length left ≡ 0 → ⊥) → 0 < length ys
some_more [] left e other = absurd (other (ap length e))
some_more (y ∷ ys) left e other = omega arith

-- ---- after one more

code_split : (xs ys : List ℕ) → numbers_code (xs ++ ys) ≡ numbers_code xs ++ numbers_code ys
code_split [] ys = refl
code_split (x ∷ xs) ys = ap (λ l. number_bytes 1 x ++ l) (code_split xs ys) ∙ sym (append_assoc (number_bytes 1 x) (numbers_code xs) (numbers_code ys))

is_zero : (n : ℕ) → Fits n → length (needed_bytes n) ≡ 0 → n ≡ 0
is_zero n p e =
    elim (cases_eq n 0) [
      | inl z ↦ z
      | inr other ↦ absurd (let some = some_needed n p other in omega (arith, some, e))
    ]

pub zero_seen : (epoch first : ℕ) (numbers left later rest : List ℕ) (count ending : ℕ) (s : Seen epoch numbers left count ending) (f : First first later s.more) → first ≡ 1 → rest ≡ numbers_code f.more → (length rest ≡ 0 → ⊥) → Seen epoch numbers rest count (ending + 1)
zero_seen epoch first numbers left later rest count ending s f one e other =
    let is : f.number ≡ 0 = is_zero f.number f.fits (omega (arith, f.count, one)) in
    let more = zero_more s.seen in
    record {
      seen = s.seen ++ 0 ∷ [];
      more = f.more;
      split = s.split ∙ ap (λ l. s.seen ++ l) (f.split ∙ ap (λ n. n ∷ f.more) is) ∙ sym (append_assoc s.seen (0 ∷ []) f.more);
      some = some_more f.more rest e other;
      fit = f.fit;
      bytes = e;
      count = s.count ∙ ap (λ l. length (number_bytes 0 epoch ++ numbers_code l)) (sym more.0);
      zeros = ap (λ n. n + 1) s.zeros ∙ sym more.1;
    }

pub number_seen : (epoch first : ℕ) (front numbers left later rest : List ℕ) (count ending : ℕ) (s : Seen epoch numbers left count ending) (f : First first later s.more) → front ≡ number_bytes 0 epoch ++ numbers_code numbers → (first ≡ 1 → ⊥) → rest ≡ numbers_code f.more → (length rest ≡ 0 → ⊥) → Seen epoch numbers rest (length front - length rest) 0
number_seen epoch first front numbers left later rest count ending s f g not_one e other =
    let seen = s.seen ++ f.number ∷ [] in
    let split : numbers ≡ seen ++ f.more = s.split ∙ ap (λ l. s.seen ++ l) f.split ∙ sym (append_assoc s.seen (f.number ∷ []) f.more) in
    let trimmed : IsTrimmed seen = number_more s.seen f.number (λ z. not_one (f.count ∙ ap (λ n. 1 + length (needed_bytes n)) z ∙ ap (λ l. 1 + length l) none_needed)) in
    let bytes : front ≡ (number_bytes 0 epoch ++ numbers_code seen) ++ numbers_code f.more = g ∙ ap (λ l. number_bytes 0 epoch ++ l) (ap numbers_code split ∙ code_split seen f.more) ∙ sym (append_assoc (number_bytes 0 epoch) (numbers_code seen) (numbers_code f.more)) in
    record {
      seen = seen;
      more = f.more;
      split = split;
      some = some_more f.more rest e other;
      fit = f.fit;
      bytes = e;
      count =
          let whole : length front - length rest ≡ length (number_bytes 0 epoch ++ numbers_code seen) = omega (arith, ap length bytes, ap length e, length-append (number_bytes 0 epoch ++ numbers_code seen) (numbers_code f.more)) in
          whole ∙ ap (λ l. length (number_bytes 0 epoch ++ numbers_code l)) (sym trimmed);
      zeros = sym (trimmed_zeros seen trimmed);
    }

-- ---- at the last number

front_is : (epoch : ℕ) (front seen more : List ℕ) → front ≡ number_bytes 0 epoch ++ numbers_code (seen ++ more) → take (length (base_bytes epoch seen)) front ≡ base_bytes epoch seen
front_is epoch front seen more e =
    let zeros = replicate (ending_zeros seen) 0 in
    let split : numbers_code (seen ++ more) ≡ numbers_code (trim seen) ++ (numbers_code zeros ++ numbers_code more) =
    code_split seen more ∙ ap (λ l. numbers_code l ++ numbers_code more) (trim_pad seen) ∙ ap (λ l. l ++ numbers_code more) (code_split (trim seen) zeros) ∙ append_assoc (numbers_code (trim seen)) (numbers_code zeros) (numbers_code more) in
    ap (take (length (base_bytes epoch seen))) (e ∙ ap (λ l. number_bytes 0 epoch ++ l) split ∙ sym (append_assoc (number_bytes 0 epoch) (numbers_code (trim seen)) (numbers_code zeros ++ numbers_code more)))
    ∙ take-append_seam (base_bytes epoch seen) (numbers_code zeros ++ numbers_code more)

pub last_seen : (epoch first : ℕ) (front numbers left later rest : List ℕ) (count ending : ℕ) (s : Seen epoch numbers left count ending) (f : First first later s.more) → front ≡ number_bytes 0 epoch ++ numbers_code numbers → rest ≡ numbers_code f.more → length rest ≡ 0
    → (take count front ≡ base_bytes epoch (without_last numbers)) × (ending ≡ ending_zeros (without_last numbers))
last_seen epoch first front numbers left later rest count ending s f g e none =
    let last : numbers ≡ s.seen ++ f.number ∷ [] = s.split ∙ ap (λ l. s.seen ++ l) (f.split ∙ ap (λ l. f.number ∷ l) (nothing f.more rest e none)) in
    let is : s.seen ≡ without_last numbers = sym (last_taken s.seen f.number) ∙ ap without_last (sym last) in (
      ap (λ n. take n front) s.count ∙ front_is epoch front s.seen s.more (g ∙ ap (λ l. number_bytes 0 epoch ++ numbers_code l) s.split) ∙ ap (base_bytes epoch) is,
      s.zeros ∙ ap ending_zeros is,
    )
