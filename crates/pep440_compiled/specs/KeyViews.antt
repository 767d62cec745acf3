-- What the views of compiled versions say; no public clause cites it.
use Rattle.std.specs.Prelude.{◌≡◌, ◌⊎◌, ◌++◌, ◌∷◌, [], Bool, true, false, is_some}
use Rattle.pep440_compiled.specs.KeyParts.{ending_zeros, base_bytes, public_bytes}
use Rattle.pep440_version.specs.RoundTrip.{IsParsed}
use Rattle.pep440_compiled.specs.declared.views.KeyView.{KeyView}
use Rattle.pep440_compiled.specs.declared.views.PartsView.{PartsView}
use Rattle.pep440_compiled.specs.declared.views.VersionView.{VersionView}
use Rattle.pep440_keys.specs.SortKeys.{key_bytes}
use Rattle.std.specs.declared.cmp.Ordering.{Ordering}
use Rattle.std.specs.declared.cmp.Ordering.TheVariants.{Equal}
use Rattle.pep440_rs.specs.Matching.{any_prerelease, candidate, has_local}
use Rattle.pep440_rs.specs.declared.specifier.operator.Operator.{Operator}
use Rattle.pep440_rs.specs.declared.specifier.operator.Operator.TheVariants.{EqualStar, ExactEqual, NotEqualStar, TildeEqual}
use Rattle.pep440_version.specs.Key.{record_cmp}
use Rattle.pep440_version.specs.Record.{Record}

-- the view is of this version
pub record IsViewOf (view : VersionView) (r : Record) : Type 0 where
  pub parsed : IsParsed r
  pub key : view.key.now ≡ key_bytes r
  pub zeros : view.zeros ≡ ending_zeros r.release

-- the parts are those of this version
pub record HasParts (view : PartsView) (r : Record) : Type 0 where
  pub version : IsViewOf view.version r
  pub release : view.release.now ≡ base_bytes r.epoch r.release ++ 0 ∷ []
  pub public : view.public.now ≡ public_bytes r
  pub is_prerelease : view.suffix.is_prerelease ≡ any_prerelease r
  pub is_post : view.suffix.is_post ≡ is_some r.post
  pub has_local : view.has_local ≡ has_local r

-- a final release without a local part
pub record IsFinal (r : Record) : Type 0 where
  pub prerelease : any_prerelease r ≡ false
  pub post : is_some r.post ≡ false
  pub local : has_local r ≡ false

-- the key is that of this version, which is no pre-release
pub record HasKey (view : KeyView) (r : Record) : Type 0 where
  pub parsed : IsParsed r
  pub key : view.key.now ≡ key_bytes r
  pub prerelease : any_prerelease r ≡ false
  pub final : view.is_final ≡ true → IsFinal r

-- the order of the candidate and a specifier's version, where nothing else counts to `<` and `>`
pub record IsDecided (order : Ordering) (s v : Record) : Type 0 where
  pub found : order ≡ record_cmp (candidate s v) s
  pub alone : (order ≡ Equal) ⊎ IsFinal v

-- the operator only compares a version with the one after it
abbrev pub is_compared : Operator → Bool
is_compared EqualStar = false
is_compared ExactEqual = false
is_compared NotEqualStar = false
is_compared TildeEqual = false
is_compared _ = true
