-- The version after others is one that strings parse to, or stands for the place above post-releases.
use Rattle.std.proofs.Common.{◌≡◌, ◌==◌, ◌+◌, ◌<◌, ◌^◌, ℕ, Bool, true, false, cond, List, [], ◌∷◌, Option, Some, None, IfSome, inl, inr, length, option_map, refl, sym, subst, arith}
use Rattle.std.proofs.lemmas.Bool.Decides.{nat_tests}
use Rattle.std.proofs.lemmas.List.Elements.{All-from_recursion, All-head, All-tail, recursion_from_All}
use Rattle.std.specs.List.{All}
use Rattle.std.specs.Option.{option_map_or}
use Rattle.std.specs.Prelude.{◌⊎◌}
use Rattle.pep440_rs.proofs.Agreement.Prefix.{some_is}
use Rattle.pep440_rs.specs.Bounds.{next_number}
use Rattle.pep440_version.proofs.RoundTrip.PrintIsRead.{none_all}
use Rattle.pep440_version.specs.Record.{Fits, Record, SegmentFits, from_parts}
use Rattle.pep440_version.specs.RoundTrip.{IsParsed, SegmentRoundTrips}
use Rattle.pep440_version.specs.declared.prerelease.Prerelease.{Prerelease}
use Rattle.pep440_version.specs.declared.prerelease.PrereleaseKind.{PrereleaseKind}
use Rattle.pep440_version.specs.declared.prerelease.PrereleaseKind.TheVariants.{Alpha, Beta, Rc}
use Rattle.pep440_sets.specs.Boundaries.{IsAbovePosts}
use Rattle.pep440_sets.specs.NextVersions.{after_dev_releases, after_epoch, after_kind, after_parts, after_posts, after_release_prefix, first_dev, pre_dev, raised_release}

-- ---- numbers

zero_fits : Fits 0
zero_fits = grind arith

pub next_fits : (n m : ℕ) → Fits n → next_number n ≡ Some m → Fits m
next_fits n m f e = go (n == 18446744073709551615) refl e
  where
    raised_fits : (n m : ℕ) → n < 2 ^ 64 → (n == 18446744073709551615) ≡ false → m ≡ n + 1 → m < 2 ^ 64
    raised_fits n m f t e = grind (arith, nat_tests, f, t, e)

    go : (b : Bool) → (n == 18446744073709551615) ≡ b → cond b None (Some (n + 1)) ≡ Some m → Fits m
    go true t e = cc
    go false t e = raised_fits n m f t cc

-- the next number, if there is one, or what is above all of them
by_next_fit : (P : Record → Type 0) (n : ℕ) (next : ℕ → Record) (past : Record) → Fits n → ((m : ℕ) → Fits m → P (next m)) → P past → P (option_map_or next (next_number n) past)
by_next_fit P n next past f one none = go (next_number n) refl
  where
    go : (o : Option ℕ) → next_number n ≡ o → P (option_map_or next o past)
    go None e = none
    go (Some m) e = one m (next_fits n m f e)

-- ---- versions of parts

-- the parts fit, and the release has a number
pub record HasParts (e : ℕ) (r : List ℕ) : Type 0 where
  pub epoch : Fits e
  pub some : 0 < length r
  pub release : All Fits r

pub parts_parsed : (e : ℕ) (r : List ℕ) (pre : Option Prerelease) (post dev : Option ℕ) → HasParts e r → IfSome pre (λ p. Fits p.number) → IfSome post Fits → IfSome dev Fits → IsParsed (from_parts e r pre post dev [])
parts_parsed e r pre post dev h p q d = record {
  valid = record { epoch = h.epoch; some = h.some; release = h.release; pre = p; post = q; dev = d; local = none_all SegmentFits; min = tt; max = tt };
  round_trips = record { no_min = refl; no_max = refl; local = none_all SegmentRoundTrips };
}

-- a version, or the place above post-releases
abbrev pub IsPlace : Record → Type 0
IsPlace v = IsParsed v ⊎ IsAbovePosts v

above_posts_is : (e : ℕ) (r : List ℕ) → HasParts e r → IsAbovePosts (after_posts e r None)
above_posts_is e r h = record {
  valid = record { epoch = h.epoch; some = h.some; release = h.release; pre = tt; post = tt; dev = tt; local = none_all SegmentFits; min = tt; max = zero_fits };
  same = refl;
}

first_dev_parsed : (e : ℕ) (r : List ℕ) → HasParts e r → IsParsed (first_dev e r)
first_dev_parsed e r h = parts_parsed e r None None (Some 0) h tt tt zero_fits

-- ---- after others

kind_place : (e : ℕ) (r : List ℕ) (k : PrereleaseKind) → HasParts e r → IsPlace (after_kind e r k)
kind_place e r Alpha h = inl (parts_parsed e r (Some (record { kind = Beta; number = 0 })) None (Some 0) h zero_fits tt zero_fits)
kind_place e r Beta h = inl (parts_parsed e r (Some (record { kind = Rc; number = 0 })) None (Some 0) h zero_fits tt zero_fits)
kind_place e r Rc h = inl (parts_parsed e r None None None h tt tt tt)

pub posts_place : (e : ℕ) (r : List ℕ) (pre : Option Prerelease) → HasParts e r → IfSome pre (λ p. Fits p.number) → IsPlace (after_posts e r pre)
posts_place e r None h f = inr (above_posts_is e r h)
posts_place e r (Some p) h f =
    by_next_fit IsPlace p.number (pre_dev e r p.kind) (after_kind e r p.kind) f (λ n g. inl (parts_parsed e r (Some (record { kind = p.kind; number = n })) None (Some 0) h g tt zero_fits)) (kind_place e r p.kind h)

devs_place : (e : ℕ) (r : List ℕ) (pre : Option Prerelease) (post : Option ℕ) → HasParts e r → IfSome pre (λ p. Fits p.number) → IfSome post Fits → IsPlace (after_dev_releases e r pre post)
devs_place e r None None h p q = inl (parts_parsed e r (Some (record { kind = Alpha; number = 0 })) None (Some 0) h zero_fits tt zero_fits)
devs_place e r (Some k) post h p q = inl (parts_parsed e r (Some k) post None h p q tt)
devs_place e r None (Some w) h p q = inl (parts_parsed e r None (Some w) None h tt q tt)

pub after_place : (e : ℕ) (r : List ℕ) (pre : Option Prerelease) (post dev : Option ℕ) → HasParts e r → IfSome pre (λ p. Fits p.number) → IfSome post Fits → IfSome dev Fits → IsPlace (after_parts e r pre post dev)
after_place e r pre post (Some d) h p q f = by_next_fit IsPlace d _ _ f (λ n g. inl (parts_parsed e r pre post (Some n) h p q g)) (devs_place e r pre post h p q)
after_place e r pre (Some w) None h p q f = by_next_fit IsPlace w _ _ q (λ n g. inl (parts_parsed e r pre (Some n) (Some 0) h p g zero_fits)) (posts_place e r pre h p)
after_place e r pre None None h p q f = inl (parts_parsed e r pre (Some 0) (Some 0) h p zero_fits zero_fits)

-- ---- after a prefix

one_more : (n : ℕ) (rest : List ℕ) → Fits n → All Fits rest → All Fits (n ∷ rest)
one_more n rest f g = All-from_recursion Fits (n ∷ rest) (f, recursion_from_All Fits rest g)

raised_fit : (xs qs : List ℕ) → All Fits xs → raised_release xs ≡ Some qs → (0 < length qs) × All Fits qs
raised_fit [] qs f e = absurd (cc)
raised_fit (x ∷ xs) qs f e = go (λ rest h. raised_fit xs rest (All-tail Fits x xs f) h) (raised_release xs) refl e
  where
    here : (o : Option ℕ) → next_number x ≡ o → option_map (λ m. m ∷ []) o ≡ Some qs → (0 < length qs) × All Fits qs
    here None h k = absurd (cc)
    here (Some m) h k = subst (λ q. (0 < length q) × All Fits q) (sym (some_is (m ∷ []) qs k)) (omega arith, one_more m [] (next_fits x m (All-head Fits x xs f) h) (none_all Fits))

    go : ((rest : List ℕ) → raised_release xs ≡ Some rest → (0 < length rest) × All Fits rest) →
        (o : Option (List ℕ)) → raised_release xs ≡ o → option_map_or (λ rest. Some (x ∷ rest)) o (option_map (λ m. m ∷ []) (next_number x)) ≡ Some qs → (0 < length qs) × All Fits qs
    go more (Some rest) h k = subst (λ q. (0 < length q) × All Fits q) (sym (some_is (x ∷ rest) qs k)) (omega arith, one_more x rest (All-head Fits x xs f) (more rest h).1)
    go more None h k = here (next_number x) refl k

pub prefix_parsed : (e : ℕ) (xs : List ℕ) (n : Record) → Fits e → All Fits xs → after_release_prefix e xs ≡ Some n → IsParsed n
prefix_parsed e xs n fe f h = go (raised_release xs) refl h
  where
    here : (o : Option ℕ) → next_number e ≡ o → option_map (λ m. first_dev m (0 ∷ [])) o ≡ Some n → IsParsed n
    here None g k = absurd (cc)
    here (Some m) g k = subst IsParsed (sym (some_is (first_dev m (0 ∷ [])) n k)) (first_dev_parsed m (0 ∷ []) (record { epoch = next_fits e m fe g; some = omega arith; release = one_more 0 [] zero_fits (none_all Fits) }))

    go : (o : Option (List ℕ)) → raised_release xs ≡ o → option_map_or (λ release. Some (first_dev e release)) o (after_epoch e) ≡ Some n → IsParsed n
    go None g k = here (next_number e) refl k
    go (Some q) g k =
        let q_fits = raised_fit xs q f g in
        subst IsParsed (sym (some_is (first_dev e q) n k)) (first_dev_parsed e q (record { epoch = fe; some = q_fits.0; release = q_fits.1 }))
