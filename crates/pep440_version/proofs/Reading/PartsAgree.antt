-- The parts after the release: what is read of them is what the grammar cuts.
use Rattle.std.proofs.Common.{◌≡◌, ◌==◌, ℕ, List, [], ◌∷◌, ◌++◌, refl, ap, ◌∙◌, drop, inl, inr, Ok, Option, Some, None, subst}
use Rattle.pep440_version.specs.declared.prerelease.PrereleaseKind.{PrereleaseKind}
use Rattle.pep440_version.specs.declared.prerelease.Prerelease.{Prerelease}
use Rattle.pep440_version.specs.Grammar.{AreBlanks, Spellings, pre_spellings, post_spellings, dev_spellings, IsPre, IsPost, IsDev, IsLocal, starts}
use Rattle.pep440_version.specs.Locals.{parse_local}
use Rattle.pep440_version.specs.Reading.{starts_with_number, parse_number}
use Rattle.pep440_version.specs.Record.{Record, LocalSegmentValue}
use Rattle.pep440_version.specs.Suffixes.{spelled, skip_separator, after_spelling, parse_count, parse_suffix, suffix_number, suffix_prerelease, is_implicit_post, parse_pre, parse_post, parse_dev}
use Rattle.pep440_version.specs.Whole.{parse_parts}
use Rattle.pep440_version.proofs.Reading.Prefixes.{both_first, both_second}
use Rattle.pep440_version.proofs.Reading.ReadIsDerived.{bind_ok, chosen, inside, number_takes, drop_one}
use Rattle.pep440_version.proofs.Reading.SpelledIsRead.{suffix_takes}
use Rattle.pep440_version.proofs.Reading.AfterRelease.{pre_again, post_again, dev_again, quiet_local}
use Rattle.pep440_version.proofs.Reading.LocalAgrees.{local_takes, local_again}

none_takes : {A : Type 0} (table : Spellings A) (t after : List ℕ) → parse_suffix table t ≡ Ok (None, after) → t ≡ after
none_takes {A} table t after e = by (spelled table (skip_separator t)) e
  where
    by : (o : Option (A × ℕ)) → after_spelling t (skip_separator t) o ≡ Ok (None, after) → t ≡ after
    by None e = ap (λ (p : Option (A × ℕ) × List ℕ). p.1) (inside _ _ e)
    by (Some x) e =
        let read = bind_ok (parse_count (skip_separator (drop x.1 (skip_separator t)))) _ _ e in
        let bad = ap (λ (p : Option (A × ℕ) × List ℕ). p.0) (inside _ _ read.2) in
        cc bad

pub pre_takes : (t after : List ℕ) (pre : Option Prerelease) → parse_pre t ≡ Ok (pre, after) → (part : List ℕ) × IsPre part after pre × (t ≡ part ++ after)
pre_takes t after pre e =
    let read = bind_ok (parse_suffix pre_spellings t) _ _ e in
    let same = inside _ _ read.2 in
    let value : suffix_prerelease read.0.0 ≡ pre = ap (λ (p : Option Prerelease × List ℕ). p.0) same in
    let rest : read.0.1 ≡ after = ap (λ (p : Option Prerelease × List ℕ). p.1) same in
    subst (λ x. (part : List ℕ) × IsPre part after x × (t ≡ part ++ after)) value (by read.0.0 (read.1 ∙ ap (λ l. Ok (read.0.0, l)) rest))
  where
    by : (o : Option (PrereleaseKind × ℕ)) → parse_suffix pre_spellings t ≡ Ok (o, after) → (part : List ℕ) × IsPre part after (suffix_prerelease o) × (t ≡ part ++ after)
    by None e = ([], refl, none_takes pre_spellings t after e)
    by (Some x) e = suffix_takes pre_spellings t after x.0 x.1 e

pub dev_takes : (t after : List ℕ) (dev : Option ℕ) → parse_dev t ≡ Ok (dev, after) → (part : List ℕ) × IsDev part after dev × (t ≡ part ++ after)
dev_takes t after dev e =
    let read = bind_ok (parse_suffix dev_spellings t) _ _ e in
    let same = inside _ _ read.2 in
    let value : suffix_number read.0.0 ≡ dev = ap (λ (p : Option ℕ × List ℕ). p.0) same in
    let rest : read.0.1 ≡ after = ap (λ (p : Option ℕ × List ℕ). p.1) same in
    subst (λ x. (part : List ℕ) × IsDev part after x × (t ≡ part ++ after)) value (by read.0.0 (read.1 ∙ ap (λ l. Ok (read.0.0, l)) rest))
  where
    by : (o : Option (Unit {0} × ℕ)) → parse_suffix dev_spellings t ≡ Ok (o, after) → (part : List ℕ) × IsDev part after (suffix_number o) × (t ≡ part ++ after)
    by None e = ([], refl, none_takes dev_spellings t after e)
    by (Some x) e = suffix_takes dev_spellings t after x.0 x.1 e

pub post_takes : (t after : List ℕ) (post : Option ℕ) → parse_post t ≡ Ok (post, after) → (part : List ℕ) × IsPost part after post × (t ≡ part ++ after)
post_takes t after post e = elim (chosen (is_implicit_post t) _ _ _ e) [
  | inl h ↦
      let read = bind_ok (parse_number (drop 1 t)) _ _ h.1 in
      let same = inside _ _ read.2 in
      let value : Some read.0.0 ≡ post = ap (λ (p : Option ℕ × List ℕ). p.0) same in
      let rest : read.0.1 ≡ after = ap (λ (p : Option ℕ × List ℕ). p.1) same in
      let n = number_takes (drop 1 t) read.0 (both_second (starts (λ b. b == 45) t) _ h.0) read.1 in (
        45 ∷ n.0,
        subst (IsPost (45 ∷ n.0) after) value (inl (n.0, n.1, refl)),
        drop_one 45 t (both_first _ (starts_with_number (drop 1 t)) h.0) ∙ ap (λ r. 45 ∷ r) (n.2 ∙ ap (λ r. n.0 ++ r) rest),
      )
  | inr h ↦
      let read = bind_ok (parse_suffix post_spellings t) _ _ h.1 in
      let same = inside _ _ read.2 in
      let value : suffix_number read.0.0 ≡ post = ap (λ (p : Option ℕ × List ℕ). p.0) same in
      let rest : read.0.1 ≡ after = ap (λ (p : Option ℕ × List ℕ). p.1) same in
      subst (λ x. (part : List ℕ) × IsPost part after x × (t ≡ part ++ after)) value (by read.0.0 (read.1 ∙ ap (λ l. Ok (read.0.0, l)) rest))
]
  where
    by : (o : Option (Unit {0} × ℕ)) → parse_suffix post_spellings t ≡ Ok (o, after) → (part : List ℕ) × IsPost part after (suffix_number o) × (t ≡ part ++ after)
    by None e = ([], refl, none_takes post_spellings t after e)
    by (Some x) e = let s = suffix_takes post_spellings t after x.0 x.1 e in (s.0, inr s.1, s.2)

-- a record that is read: its parts
abbrev pub from_parts : ℕ → List ℕ → Option Prerelease → Option ℕ → Option ℕ → List LocalSegmentValue → Record
from_parts epoch release pre post dev local = record { epoch = epoch; release = release; pre = pre; post = post; dev = dev; local = local; min = None; max = None }

-- the parts after the release, and what they are cut into
pub record Parts (t after : List ℕ) (epoch : ℕ) (release : List ℕ) (r : Record) : Type 0 where
  pub p : List ℕ
  pub q : List ℕ
  pub d : List ℕ
  pub l : List ℕ
  pub decomposition : t ≡ p ++ (q ++ (d ++ (l ++ after)))
  pub pre : IsPre p (q ++ (d ++ (l ++ after))) r.pre
  pub post : IsPost q (d ++ (l ++ after)) r.post
  pub dev : IsDev d (l ++ after) r.dev
  pub local : IsLocal l r.local
  pub is : r ≡ from_parts epoch release r.pre r.post r.dev r.local

pub parts_take : (epoch : ℕ) (release t : List ℕ) (x : Record × List ℕ) → parse_parts epoch release t ≡ Ok x → Parts t x.1 epoch release x.0
unfolding parse_parts
parts_take epoch release t x e =
    let p = bind_ok (parse_pre t) _ x e in
    let q = bind_ok (parse_post p.0.1) _ x p.2 in
    let d = bind_ok (parse_dev q.0.1) _ x q.2 in
    let l = bind_ok (parse_local d.0.1) _ x d.2 in
    let same = inside _ _ l.2 in
    let is : from_parts epoch release p.0.0 q.0.0 d.0.0 l.0.0 ≡ x.0 = ap (λ (y : Record × List ℕ). y.0) same in
    let rest : l.0.1 ≡ x.1 = ap (λ (y : Record × List ℕ). y.1) same in
    let lt = local_takes d.0.1 l.0 l.1 in
    let split_l : d.0.1 ≡ lt.0 ++ x.1 = lt.2 ∙ ap (λ r. lt.0 ++ r) rest in
    let dt = dev_takes q.0.1 d.0.1 d.0.0 d.1 in
    let split_d : q.0.1 ≡ dt.0 ++ (lt.0 ++ x.1) = dt.2 ∙ ap (λ r. dt.0 ++ r) split_l in
    let qt = post_takes p.0.1 q.0.1 q.0.0 q.1 in
    let split_q : p.0.1 ≡ qt.0 ++ (dt.0 ++ (lt.0 ++ x.1)) = qt.2 ∙ ap (λ r. qt.0 ++ r) split_d in
    let pt = pre_takes t p.0.1 p.0.0 p.1 in
    subst (λ r. Parts t x.1 epoch release r) is
    (record {
      p = pt.0;
      q = qt.0;
      d = dt.0;
      l = lt.0;
      decomposition = pt.2 ∙ ap (λ r. pt.0 ++ r) split_q;
      pre = subst (λ r. IsPre pt.0 r p.0.0) split_q pt.1;
      post = subst (λ r. IsPost qt.0 r q.0.0) split_d qt.1;
      dev = subst (λ r. IsDev dt.0 r d.0.0) split_l dt.1;
      local = lt.1;
      is = refl;
    })

pub parts_again : (epoch : ℕ) (release p q d l w : List ℕ) (pre : Option Prerelease) (post dev : Option ℕ) (local : List LocalSegmentValue)
    → IsPre p (q ++ (d ++ (l ++ w))) pre → IsPost q (d ++ (l ++ w)) post → IsDev d (l ++ w) dev → IsLocal l local → AreBlanks w
    → parse_parts epoch release (p ++ (q ++ (d ++ (l ++ w)))) ≡ Ok (from_parts epoch release pre post dev local, w)
unfolding parse_parts
parts_again epoch release p q d l w pre post dev local hp hq hd hl blanks =
    let quiet = quiet_local l w local hl blanks in
    rw (pre_again p q d (l ++ w) pre post dev hp hq hd quiet, post_again q d (l ++ w) post dev hq hd quiet, dev_again d (l ++ w) dev hd quiet, local_again l w local hl blanks) refl
