-- What the ranks of stage, post and dev say of a version that a string parses to.
use Rattle.std.proofs.Common.{◌≡◌, ◌∙◌, ◌==◌, ◌||◌, ◌+◌, ◌-◌, ◌*◌, ◌++◌, ◌∷◌, [], ℕ, ◌<◌, ◌≤◌, List, refl, sym, ap, arith, Bool, false, true, Option, Some, None, append_assoc, get_or, length, nat_lt, lit<, take, take_all}
use Rattle.std.specs.Prelude.{drop, is_some}
use Rattle.pep440_version.specs.RoundTrip.{IsParsed}
use Rattle.std.specs.List.{flat_map}
use Rattle.std.specs.Slice.Scan.{big_endian}
use Rattle.pep440_compiled.proofs.ByteOrder.{AreBytes}
use Rattle.pep440_compiled.proofs.Fronts.{none_needed}
use Rattle.pep440_compiled.specs.KeyParts.{suffix_bytes}
use Rattle.pep440_keys.proofs.Bytes.{needed_le}
use Rattle.pep440_keys.proofs.Codes.{segment_opens}
use Rattle.pep440_keys.specs.SortKeys.{local_bytes, needed_bytes, rank_bytes, segment_bytes}
use Rattle.pep440_rs.specs.Matching.{any_prerelease}
use Rattle.pep440_version.specs.Key.{DevPart, PostPart, Stage, dev_of, dev_rank, key, post_of, post_rank, stage_of, stage_rank}
use Rattle.pep440_version.specs.Record.{LocalSegmentValue, Record, from_parts}
use Rattle.pep440_version.specs.declared.prerelease.Prerelease.{Prerelease}
use Rattle.pep440_version.specs.declared.prerelease.PrereleaseKind.{PrereleaseKind}
use Rattle.pep440_version.specs.declared.prerelease.PrereleaseKind.TheVariants.{Alpha, Beta, Rc}
use Rattle.pep440_version.specs.Key.{Min, Dev, Pre, Final, NoPost, PostAt, PostTop, DevAt, NoDev}

pub stage_small : (s : Stage) → (stage_rank s).0 < 16
stage_small Min = lit< tt
stage_small Dev = lit< tt
stage_small (Pre Alpha n) = lit< tt
stage_small (Pre Beta n) = lit< tt
stage_small (Pre Rc n) = lit< tt
stage_small Final = lit< tt

pub post_small : (p : PostPart) → (post_rank p).0 < 16
post_small NoPost = lit< tt
post_small (PostAt n) = lit< tt
post_small (PostTop n) = lit< tt

pub dev_small : (d : DevPart) → (dev_rank d).0 < 16
dev_small (DevAt n) = lit< tt
dev_small NoDev = lit< tt

kind_flag : (k : PrereleaseKind) (n : ℕ) → nat_lt (stage_rank (Pre k n)).0 5 ≡ true
kind_flag Alpha n = refl
kind_flag Beta n = refl
kind_flag Rc n = refl

-- a stage below a final release's, or a dev
abbrev early_flag : Option ℕ → Option Prerelease → Option ℕ → Option ℕ → Option ℕ → Bool
early_flag min pre dev post max = nat_lt (stage_rank (stage_of min pre dev post max)).0 5 || ((dev_rank (dev_of min dev)).0 == 0)

without_sentinels : (pre : Option Prerelease) (dev post : Option ℕ) → early_flag None pre dev post None ≡ is_some pre || is_some dev
without_sentinels (Some p) dev post = ap (λ b. b || ((dev_rank (dev_of None dev)).0 == 0)) (kind_flag p.kind p.number)
without_sentinels None None post = refl
without_sentinels None (Some d) None = refl
without_sentinels None (Some d) (Some p) = refl

pub early_is : (r : Record) → IsParsed r → early_flag r.min r.pre r.dev r.post r.max ≡ any_prerelease r
early_is r p = (λ i. early_flag (p.round_trips.no_min i) r.pre r.dev r.post (p.round_trips.no_max i)) ∙ without_sentinels r.pre r.dev r.post

post_flag : (post : Option ℕ) → nat_lt 0 (post_rank (post_of None post)).0 ≡ is_some post
post_flag None = refl
post_flag (Some n) = refl

pub post_is : (r : Record) → IsParsed r → nat_lt 0 (post_rank (post_of r.max r.post)).0 ≡ is_some r.post
post_is r p = (λ i. nat_lt 0 (post_rank (post_of (p.round_trips.no_max i) r.post)).0) ∙ post_flag r.post

pub in_turn : (r : Record) (rest : List ℕ) → suffix_bytes r ++ rest ≡ rank_bytes (stage_rank (key r).stage) ++ (rank_bytes (post_rank (key r).post) ++ (rank_bytes (dev_rank (key r).dev) ++ rest))
in_turn r rest =
    append_assoc (rank_bytes (stage_rank (key r).stage)) _ rest
    ∙ ap (λ l. rank_bytes (stage_rank (key r).stage) ++ l) (append_assoc (rank_bytes (post_rank (key r).post)) (rank_bytes (dev_rank (key r).dev)) rest)

-- ---- a final release

empty : {A : Type 0} (xs : List A) → length xs ≡ 0 → xs ≡ []
empty [] e = refl
empty (x ∷ xs) e = absurd (omega (arith, e))

pub by_three : (bytes : List ℕ) → 3 ≤ length bytes → get_or bytes 0 0 ≡ 80 → get_or bytes 1 0 ≡ 0 → get_or bytes 2 0 ≡ 16 → bytes ≡ 80 ∷ 0 ∷ 16 ∷ take (length bytes - 3) (drop 3 bytes)
by_three [] some e f g = absurd (omega (arith, some))
by_three (a ∷ []) some e f g = absurd (omega (arith, some))
by_three (a ∷ b ∷ []) some e f g = absurd (omega (arith, some))
by_three (a ∷ b ∷ c ∷ rest) some e f g =
    let all : length rest ≤ length (a ∷ b ∷ c ∷ rest) - 3 = omega arith in
    (λ i. e i ∷ f i ∷ g i ∷ sym (take_all (length (a ∷ b ∷ c ∷ rest) - 3) rest all) i)

-- a rank alone
no_number : (bytes later rest : List ℕ) (base rank n : ℕ) → bytes ≡ (16 * base) ∷ later → bytes ≡ rank_bytes (rank, n) ++ rest → (rank ≡ base) × (later ≡ rest)
no_number bytes later rest base rank n is e =
    let at : 16 * base ≡ 16 * rank + length (needed_bytes n) = ap (λ l. get_or l 0 0) (sym is ∙ e) in
    let few = needed_le n in
    (omega (arith, at, few), ap (drop 1) (sym is ∙ e) ∙ ap (λ l. l ++ rest) (empty (needed_bytes n) (omega (arith, at, few))))

pub final_parts : (r : Record) (bytes after rest : List ℕ) → IsParsed r → bytes ≡ 80 ∷ 0 ∷ 16 ∷ after
    → bytes ≡ rank_bytes (stage_rank (key r).stage) ++ (rank_bytes (post_rank (key r).post) ++ (rank_bytes (dev_rank (key r).dev) ++ rest))
    → (false ≡ any_prerelease r) × (false ≡ is_some r.post) × (after ≡ rest)
final_parts r bytes after rest p is e =
    let stage = no_number bytes (0 ∷ 16 ∷ after) _ 5 (stage_rank (key r).stage).0 (stage_rank (key r).stage).1 is e in
    let post = no_number (0 ∷ 16 ∷ after) (16 ∷ after) _ 0 (post_rank (key r).post).0 (post_rank (key r).post).1 refl stage.1 in
    let dev = no_number (16 ∷ after) after rest 1 (dev_rank (key r).dev).0 (dev_rank (key r).dev).1 refl post.1 in (
      sym (λ i. nat_lt (stage.0 i) 5 || (dev.0 i == 0)) ∙ early_is r p,
      sym (ap (λ n. nat_lt 0 n) post.0) ∙ post_is r p,
      dev.1,
    )

absent : {A : Type 0} (o : Option A) → is_some o ≡ false → None ≡ o
absent None e = refl
absent (Some x) e = cc

neither : (a b : Bool) → a || b ≡ false → (a ≡ false) × (b ≡ false)
neither true b e = cc
neither false b e = (refl, e)

-- no part at all
pub final_is : (r : Record) (bytes after rest : List ℕ) → IsParsed r → bytes ≡ 80 ∷ 0 ∷ 16 ∷ after
    → bytes ≡ rank_bytes (stage_rank (key r).stage) ++ (rank_bytes (post_rank (key r).post) ++ (rank_bytes (dev_rank (key r).dev) ++ rest))
    → (None ≡ r.pre) × (None ≡ r.post) × (None ≡ r.dev) × (after ≡ rest)
final_is r bytes after rest p is e =
    let parts = final_parts r bytes after rest p is e in
    let early = neither (is_some r.pre) (is_some r.dev) (sym parts.0) in
    (absent r.pre early.0, absent r.post (sym parts.1), absent r.dev early.1, parts.2)

pub final_again : (bytes after : List ℕ) → bytes ≡ 80 ∷ 0 ∷ 16 ∷ after → bytes ≡ suffix_bytes (from_parts 0 [] None None None []) ++ after
final_again bytes after is = is ∙ ap (λ l. ((80 + length l) ∷ l ++ ((0 + length l) ∷ l ++ (16 + length l) ∷ l)) ++ after) (sym none_needed)

-- without a local part
pub by_four : (bytes : List ℕ) → 4 ≤ length bytes → AreBytes bytes → 0x50001000 ≡ big_endian 0 (take 4 bytes) → bytes ≡ 80 ∷ 0 ∷ 16 ∷ 0 ∷ take (length bytes - 4) (drop 4 bytes)
by_four [] some all e = absurd (omega (arith, some))
by_four (a ∷ []) some all e = absurd (omega (arith, some))
by_four (a ∷ b ∷ []) some all e = absurd (omega (arith, some))
by_four (a ∷ b ∷ c ∷ []) some all e = absurd (omega (arith, some))
by_four (a ∷ b ∷ c ∷ d ∷ rest) some all e =
    let some_a : a < 256 = all 0 in
    let some_b : b < 256 = all 1 in
    let some_c : c < 256 = all 2 in
    let some_d : d < 256 = all 3 in
    let is_a : a ≡ 80 = omega (arith, e, some_a, some_b, some_c, some_d) in
    let is_b : b ≡ 0 = omega (arith, e, some_a, some_b, some_c, some_d) in
    let is_c : c ≡ 16 = omega (arith, e, some_a, some_b, some_c, some_d) in
    let is_d : d ≡ 0 = omega (arith, e, some_a, some_b, some_c, some_d) in
    let enough : length rest ≤ length (a ∷ b ∷ c ∷ d ∷ rest) - 4 = omega arith in
    (λ i. is_a i ∷ is_b i ∷ is_c i ∷ is_d i ∷ sym (take_all (length (a ∷ b ∷ c ∷ d ∷ rest) - 4) rest enough) i)

-- no local part begins with its end
pub no_local_left : (local : List LocalSegmentValue) (later rest : List ℕ) → 0 ∷ later ≡ local_bytes local ++ rest → (local ≡ []) × (later ≡ rest)
no_local_left [] later rest e = (refl, ap (drop 1) e)
no_local_left (s ∷ local) later rest e =
    let o = segment_opens s in
    let first : 0 ≡ o.first = ap (λ l. get_or l 0 0) (e ∙ ap (λ l. ((l ++ flat_map segment_bytes local) ++ 0 ∷ []) ++ rest) o.is) in
    absurd (omega (arith, first, o.above))
