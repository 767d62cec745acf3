-- The newest of some versions, and of one version more.
use Rattle.std.proofs.Common.{◌≡◌, ◌∙◌, List, [], ◌∷◌, ◌++◌, false, refl, ap, subst, sym, append_assoc, append-nil}
use Rattle.std.proofs.lemmas.Cmp.{upto}
use Rattle.std.proofs.lemmas.List.Elements.{All-append, All-cons, All-nil, All-push, All-weaker}
use Rattle.std.specs.List.{All, fold, reduce}
use Rattle.std.specs.Ordering.{is_gt, is_lt, max_by_ordering, ordering_reverse}
use Rattle.std.specs.Prelude.{IsTrue}
use Rattle.std.specs.declared.cmp.Ordering.{Ordering}
use Rattle.std.specs.declared.cmp.Ordering.TheVariants.{Less, Equal, Greater}
use Rattle.pep440_version.specs.Key.{record_cmp}
use Rattle.pep440_version.specs.Key.KeyLaws.{record_total}
use Rattle.pep440_version.specs.Record.{Record}
use Rattle.examples.specs.Versions.{IsLastGreatest, LastGreatest}

-- the later of two where they are equal
abbrev pub newer : Record → Record → Record
newer v w = max_by_ordering (record_cmp v w) v w

abbrev IsUpTo : Record → Record → Type 0
IsUpTo v w = is_gt (record_cmp w v) ≡ false

abbrev IsBelow : Record → Record → Type 0
IsBelow v w = IsTrue (is_lt (record_cmp w v))

not_above : (o : Ordering) → IsTrue (is_lt o) → is_gt o ≡ false
not_above Less e = refl
not_above Equal e = refl
not_above Greater e = cc e

-- the versions so far are up to one that the newest of them is up to
all_up_to : (seen : List Record) (v x : Record) → IsLastGreatest seen v → is_gt (record_cmp v x) ≡ false → All (IsUpTo x) seen
all_up_to seen v x n le = subst (All (IsUpTo x)) (sym n.split)
    (All-append (IsUpTo x) n.before (v ∷ n.after)
    (All-weaker (IsUpTo v) (IsUpTo x) (λ w up. upto record_total w v x up le) n.before n.greatest)
    (All-cons (IsUpTo x) v n.after le
    (All-weaker (IsBelow v) (IsUpTo x) (λ w below. upto record_total w v x (not_above (record_cmp w v) below) le) n.after n.above)))

one_more : (seen : List Record) (v x : Record) → IsLastGreatest seen v → IsLastGreatest (seen ++ x ∷ []) (newer v x)
one_more seen v x n = by_order (record_cmp v x) refl
  where
    replaced : is_gt (record_cmp v x) ≡ false → IsLastGreatest (seen ++ x ∷ []) x
    replaced le = record { before = seen; after = []; split = refl; greatest = all_up_to seen v x n le; above = All-nil (IsBelow x) }

    by_order : (o : Ordering) → record_cmp v x ≡ o → IsLastGreatest (seen ++ x ∷ []) (max_by_ordering o v x)
    by_order Less e = replaced (ap is_gt e)
    by_order Equal e = replaced (ap is_gt e)
    by_order Greater e = record {
      before = n.before;
      after = n.after ++ x ∷ [];
      split = ap (λ (l : List Record). l ++ x ∷ []) n.split ∙ append_assoc n.before (v ∷ n.after) (x ∷ []);
      greatest = n.greatest;
      above = All-push (IsBelow v) n.after x n.above (ap is_lt (record_total.antisymm x v ∙ ap ordering_reverse e));
    }

all_more : (seen rest : List Record) (v : Record) → IsLastGreatest seen v → IsLastGreatest (seen ++ rest) (fold newer v rest)
all_more seen [] v n = subst (λ (l : List Record). IsLastGreatest l v) (sym (append-nil seen)) n
all_more seen (x ∷ rest) v n = subst (λ (l : List Record). IsLastGreatest l (fold newer (newer v x) rest)) (append_assoc seen (x ∷ []) rest) (all_more (seen ++ x ∷ []) rest (newer v x) (one_more seen v x n))

pub newest_of_all : (versions : List Record) → LastGreatest versions (reduce newer versions)
newest_of_all [] = refl
newest_of_all (v ∷ rest) = all_more (v ∷ []) rest v (record { before = []; after = []; split = refl; greatest = All-nil (IsUpTo v); above = All-nil (IsBelow v) })
