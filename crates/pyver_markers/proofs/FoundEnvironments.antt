-- Environments that are found, and the systems that the variables of markers name.
use Rattle.std.proofs.Common.{◌≡◌, ◌≢◌, ◌∙◌, ◌++◌, ◌-◌, ◌≤◌, ℕ, zero, suc, List, [], ◌∷◌, Bool, true, false, Option, Some, None, ap, drop, get_or, length, refl, subst, sym, take, ◌&&◌, ◌||◌, not, codes, inl, inr}
use Rattle.std.proofs.lemmas.Bool.{true≢false, and_parts, or_parts}
use Rattle.std.specs.List.{find, list_all}
use Rattle.std.specs.Prelude.{bytes_eq, codes, cond, is_some, map, option_map}
use Rattle.pep440_rs.specs.Bounds.{Segments}
use Rattle.pep440_version.specs.Record.{Record}
use Rattle.pyver_requirements.specs.MarkerGrammar.{Both, Comparison, Either, Marker}
use Rattle.pyver_requirements.specs.MarkerTokens.{Side}
use Rattle.pyver_requirements.specs.declared.marker_operator.MarkerOperator.{MarkerOperator}
use Rattle.pyver_markers.proofs.BoxLaws.{first_and_rest, parts_of_both, parts_of_either}
use Rattle.pyver_markers.specs.Conditions.{AreLinked, Domain, HasAllowed, HasNoText, HasPython, HasVersion, IsAllowed, IsEnvironment, IsNever, setting_version, short_version, variable_version, LacksOthers, LacksSystem, first_asked}
use Rattle.pyver_markers.specs.Environments.{Assignment, Environment, Extends, Names, Setting, Text, HasSystem, IsOn, System, has_known_name, is_known_system, has_either_name, has_windows_name, same_system, system}
use Rattle.pyver_markers.specs.Extents.{assignment_of, environment_of, found_environment, setting_of, IsAlways, IsExample, is_writable}
use Rattle.pyver_markers.specs.MarkerValues.{both_hold, either_holds, value}
use Rattle.pyver_markers.specs.MarkerComparisons.{ascii_version, compare, compare_left, compare_right}
use Rattle.pyver_markers.specs.declared.environment.Variable.{Variable}
use Rattle.pyver_markers.specs.declared.found_environment.FoundVariable.{FoundVariable}
use Rattle.std.proofs.lemmas.Slice.Eq.{bytes_eq-Decides}
use Rattle.pyver_markers.proofs.Texts.{asked_differs, either_is}
use Rattle.pyver_markers.specs.Boxes.{Box, in_box}
use Rattle.pyver_requirements.specs.MarkerTokens as tokens

-- what is found first
abbrev pub or_else : Option Setting → Option Setting → Option Setting
or_else None later = later
or_else (Some s) later = Some s

or_else_none : (s : Option Setting) → or_else s None ≡ s
or_else_none None = refl
or_else_none (Some s) = refl

or_else_either : (s t u : Option Setting) → or_else (or_else s t) u ≡ or_else s (or_else t u)
or_else_either None t u = refl
or_else_either (Some s) t u = refl

first_or : (b : Bool) (x : Variable) (found later : Option Variable) (last : Option Setting)
    → option_map (λ (v : Variable). setting_of v.setting) later ≡ or_else (option_map (λ (v : Variable). setting_of v.setting) found) last
    → option_map (λ (v : Variable). setting_of v.setting) (cond b (Some x) later) ≡ or_else (option_map (λ (v : Variable). setting_of v.setting) (cond b (Some x) found)) last
first_or true x found later last is = refl
first_or false x found later last is = is

with_last : (variables : List Variable) (v : Variable) (name : List ℕ)
    → environment_of (variables ++ v ∷ []) name ≡ or_else (environment_of variables name) (environment_of (v ∷ []) name)
with_last [] v name = refl
with_last (x ∷ variables) v name =
    first_or (bytes_eq x.name.now name) x (find (λ w. bytes_eq w.name.now name) variables) (find (λ w. bytes_eq w.name.now name) (variables ++ v ∷ []))
    (environment_of (v ∷ []) name) (with_last variables v name)

one_or : (b : Bool) (v : Assignment) (rest : Option Assignment)
    → or_else (cond b (Some (Text v.text)) None) (option_map (λ (w : Assignment). Text w.text) rest) ≡ option_map (λ (w : Assignment). Text w.text) (cond b (Some v) rest)
one_or true v rest = refl
one_or false v rest = refl

alone : (b : Bool) (w : Variable) → option_map (λ (v : Variable). setting_of v.setting) (cond b (Some w) None) ≡ cond b (Some (setting_of w.setting)) None
alone true w = refl
alone false w = refl

-- so far these variables, and the rest, are as all that were found
abbrev pub AreFound : List Variable → List FoundVariable → List FoundVariable → Type 0
AreFound variables rest all = (name : List ℕ) → or_else (environment_of variables name) (found_environment rest name) ≡ found_environment all name

one_more : (variables : List Variable) (w : Variable) (v : FoundVariable) (rest all : List FoundVariable) → w.name.now ≡ v.name.now → setting_of w.setting ≡ Text v.text.items
    → AreFound variables (v ∷ rest) all → AreFound (variables ++ w ∷ []) rest all
one_more variables w v rest all same is so_far name =
    ap (λ s. or_else s (found_environment rest name)) (with_last variables w name)
    ∙ or_else_either (environment_of variables name) (environment_of (w ∷ []) name) (found_environment rest name)
    ∙ ap (or_else (environment_of variables name)) (
    ap (λ s. or_else s (found_environment rest name)) (
    alone (bytes_eq w.name.now name) w ∙ ap (λ s. cond (bytes_eq w.name.now name) (Some s) None) is
    ∙ ap (λ n. cond (bytes_eq n name) (Some (Text v.text.items)) None) same)
    ∙ one_or (bytes_eq v.name.now name) (assignment_of v) (find (λ (u : Assignment). bytes_eq u.name name) (map assignment_of rest)))
    ∙ so_far name

pub all_found : (variables : List Variable) (all : List FoundVariable) → AreFound variables [] all → environment_of variables ≡ found_environment all
all_found variables all so_far = λ i. λ name. (sym (or_else_none (environment_of variables name)) ∙ so_far name) i

pub one_borrowed : (variables more : List Variable) (w : Variable) (v : FoundVariable) (rest all : List FoundVariable) → 1 ≤ length rest → v ≡ get_or rest 0 v
    → more ≡ variables ++ w ∷ [] → w.name.now ≡ v.name.now → setting_of w.setting ≡ Text v.text.items → AreFound variables rest all
    → AreFound more (take (length rest - 1) (drop 1 rest)) all
one_borrowed variables more w v rest all long first is same text so_far =
    let later = take (length rest - 1) (drop 1 rest) in
    let split : rest ≡ v ∷ later = first_and_rest rest v long ∙ ap (λ (u : FoundVariable). u ∷ later) (sym first) in
    subst (λ l. AreFound l later all) (sym is) (one_more variables w v later all same text (subst (λ l. AreFound variables l all) split so_far))

-- ---- versions

version_in : (s : Option Setting) (v : Record) → setting_version s ≡ Some v → (text : List ℕ) × (s ≡ Some (Text text)) × (ascii_version text ≡ Some v)
version_in None v is = cc
version_in (Some (Names names)) v is = cc
version_in (Some (Text text)) v is = (text, refl, is)

pub version_there : (e : Environment) (name : List ℕ) (v : Option Record) → v ≡ variable_version e name → is_some v ≡ true → HasVersion e name
version_there e name None reads some = absurd (true≢false (sym some))
version_there e name (Some v) reads some = let (text, has, is) = version_in (e name) v (sym reads) in (text, v, has, is)

pub linked : (e : Environment) (short full : List ℕ) (one other : Record) → Some one ≡ variable_version e short → Some other ≡ variable_version e full
    → one ≡ short_version other → AreLinked e short full
linked e short full one other is so same v w reads also =
    let first : one ≡ v = cc (is, reads) in
    let second : other ≡ w = cc (so, also) in
    sym first ∙ same ∙ ap short_version second

pub no_text : {X : Type 0} (view : X → Setting) (o : Option X) (s : Option Setting) → is_some o ≡ false → option_map view o ≡ s → (text : List ℕ) → s ≢ Some (Text text)
no_text view None s none is text has = cc
no_text view (Some x) s none is text has = true≢false none

pub python_there : (e : Environment) (short full : List ℕ) → short ≡ codes "python_version" → full ≡ codes "python_full_version" → HasVersion e short
    → HasVersion e full → AreLinked e short full → HasPython e
python_there e short full is so one other same = record {
  short = subst (HasVersion e) is one;
  full = subst (HasVersion e) so other;
  linked = subst (λ n. AreLinked e n (codes "python_full_version")) is (subst (AreLinked e short) so same);
}

pub unset : {X : Type 0} (view : X → Setting) (e : Environment) (o : Option X) (name wanted : List ℕ) → name ≡ wanted → is_some o ≡ false → option_map view o ≡ e name
    → HasNoText e wanted
unset view e o name wanted is none has = subst (HasNoText e) is (no_text view o (e name) none has)

pub allowed_there : (e : Environment) (allowed : Option Segments) (name : List ℕ) (v : Record) → name ≡ codes "python_full_version" → Some v ≡ variable_version e name
    → IsAllowed allowed v → HasAllowed allowed e
allowed_there e allowed name v is reads may w also = subst (IsAllowed allowed) (cc (reads, subst (λ n. variable_version e n ≡ Some w) (sym is) also)) may

pub text_there : {X : Type 0} (view : X → Setting) (e : Environment) (name wanted : List ℕ) (o : Option X) (x : X) → name ≡ wanted → o ≡ Some x → option_map view o ≡ e name
    → e wanted ≡ Some (view x)
text_there view e name wanted o x is found has = ap e (sym is) ∙ sym has ∙ ap (option_map view) found

-- ---- environments that have more

first_or_later : (b : Bool) (v : Assignment) (x y : Option Assignment) (s : Setting)
    → (option_map (λ (w : Assignment). Text w.text) x ≡ Some s → option_map (λ (w : Assignment). Text w.text) y ≡ Some s)
    → option_map (λ (w : Assignment). Text w.text) (cond b (Some v) x) ≡ Some s → option_map (λ (w : Assignment). Text w.text) (cond b (Some v) y) ≡ Some s
first_or_later true v x y s later is = is
first_or_later false v x y s later is = later is

in_front : (n : ℕ) (all : List FoundVariable) → Extends (found_environment (take n all)) (found_environment all)
in_front zero all name s is = cc
in_front (suc n) [] name s is = is
in_front (suc n) (v ∷ all) name s is =
    first_or_later (bytes_eq v.name.now name) (assignment_of v) (find (λ (u : Assignment). bytes_eq u.name name) (map assignment_of (take n all)))
    (find (λ (u : Assignment). bytes_eq u.name name) (map assignment_of all)) s (in_front n all name s) is

left_stays : (name : List ℕ) (o : MarkerOperator) (right : List ℕ) (s t : Option Setting) (v : Bool) → ((x : Setting) → s ≡ Some x → t ≡ Some x)
    → compare_left name o right s ≡ Some v → compare_left name o right t ≡ Some v
left_stays name o right None t v more is = cc
left_stays name o right (Some x) t v more is = ap (compare_left name o right) (more x refl) ∙ is

right_stays : (left : List ℕ) (o : MarkerOperator) (name : List ℕ) (s t : Option Setting) (v : Bool) → ((x : Setting) → s ≡ Some x → t ≡ Some x)
    → compare_right left o name s ≡ Some v → compare_right left o name t ≡ Some v
right_stays left o name None t v more is = cc
right_stays left o name (Some x) t v more is = ap (compare_right left o name) (more x refl) ∙ is

compare_stays : (e whole : Environment) → Extends e whole → (left : Side) (o : MarkerOperator) (right : Side) (v : Bool) → compare e left o right ≡ Some v
    → compare whole left o right ≡ Some v
compare_stays e whole more (tokens.Variable name) o (tokens.Constant text) v is = left_stays name o text (e name) (whole name) v (more name) is
compare_stays e whole more (tokens.Variable name) o (tokens.Variable text) v is = left_stays name o text (e name) (whole name) v (more name) is
compare_stays e whole more (tokens.Variable name) o (tokens.Invalid f) v is = cc
compare_stays e whole more (tokens.Constant text) o (tokens.Variable name) v is = right_stays text o name (e name) (whole name) v (more name) is
compare_stays e whole more (tokens.Constant text) o (tokens.Constant other) v is = cc
compare_stays e whole more (tokens.Constant text) o (tokens.Invalid f) v is = cc
compare_stays e whole more (tokens.Invalid f) o right v is = cc

-- a value stays what it is where an environment has more
value_stays : (e whole : Environment) → Extends e whole → (m : Marker) (v : Bool) → value e m ≡ Some v → value whole m ≡ Some v
value_stays e whole more (Comparison left o right) v is = compare_stays e whole more left o right v is
value_stays e whole more (Both a b) v is =
    let (x, y, first, second, joined) = parts_of_both (value e a) (value e b) v is in
    ap (λ p. both_hold p (value whole b)) (value_stays e whole more a x first) ∙ ap (λ p. both_hold (Some x) p) (value_stays e whole more b y second) ∙ ap Some joined
value_stays e whole more (Either a b) v is =
    let (x, y, first, second, joined) = parts_of_either (value e a) (value e b) v is in
    ap (λ p. either_holds p (value whole b)) (value_stays e whole more a x first) ∙ ap (λ p. either_holds (Some x) p) (value_stays e whole more b y second) ∙ ap Some joined

pub example : (d : Domain) (m : Marker) (n : ℕ) (all kept : List FoundVariable) → kept ≡ take n all → IsEnvironment d (found_environment all)
    → list_all (λ (v : Assignment). is_writable v.text) (map assignment_of kept) ≡ true → value (found_environment kept) m ≡ Some true → IsExample d m (map assignment_of kept)
example d m n all kept is known writable holds = record {
  environment = found_environment all;
  known = known;
  has = subst (λ l. Extends (found_environment l) (found_environment all)) (sym is) (in_front n all);
  holds = λ e has. value_stays (found_environment kept) e has m true holds;
  writable = writable;
}

pub always : (d : Domain) (m : Marker) (variables : List Assignment) → IsExample d m variables → IsNever d false m → IsAlways d m
always d m variables it never = (it.environment, it.known, it.holds it.environment it.has, never)

-- ---- names

-- what asks for a name has no environment on a system without it
pub sys_asked : (box : Box) (sys platform : List ℕ) → first_asked (codes "sys_platform") box ≡ Some sys → LacksOthers box (λ s. has_either_name s sys platform)
sys_asked box sys platform first s none e on =
    asked_differs (codes "sys_platform") sys s.sys box refl refl first (or_parts (bytes_eq s.sys sys) (bytes_eq s.platform platform) none).0 e on.sys

pub platform_asked : (box : Box) (sys platform : List ℕ) → first_asked (codes "platform_system") box ≡ Some platform → LacksOthers box (λ s. has_either_name s sys platform)
platform_asked box sys platform first s none e on =
    asked_differs (codes "platform_system") platform s.platform box refl refl first (or_parts (bytes_eq s.sys sys) (bytes_eq s.platform platform) none).1 e on.platform

pub os_asked : (box : Box) → first_asked (codes "os_name") box ≡ Some (codes "nt") → LacksOthers box has_windows_name
os_asked box first s none e on =
    asked_differs (codes "os_name") (codes "nt") s.os box refl refl first (or_parts (bytes_eq s.os (codes "nt")) (has_either_name s (codes "win32") (codes "Windows")) none).0 e on.os

pub windows_named : (box : Box) → LacksOthers box (λ s. has_either_name s (codes "win32") (codes "Windows")) → LacksOthers box has_windows_name
windows_named box lacks s none = lacks s (or_parts (bytes_eq s.os (codes "nt")) (has_either_name s (codes "win32") (codes "Windows")) none).1

-- a system that has none of several names has not the first one, and none of the others
pub first_of : (box : Box) (p q : System → Bool) → LacksOthers box p → LacksOthers box (λ s. p s || q s)
first_of box p q lacks s none = lacks s (or_parts (p s) (q s) none).0

pub one_of_rest : (box : Box) (p q : System → Bool) → LacksOthers box q → LacksOthers box (λ s. p s || q s)
one_of_rest box p q lacks s none = lacks s (or_parts (p s) (q s) none).1

module _ (box : Box) where
  abbrev pub of_linux : System → Bool
  of_linux s = has_either_name s (codes "linux") (codes "Linux")

  abbrev pub of_macos : System → Bool
  of_macos s = has_either_name s (codes "darwin") (codes "Darwin")

  abbrev pub of_android : System → Bool
  of_android s = has_either_name s (codes "android") (codes "Android")

  abbrev pub of_ios : System → Bool
  of_ios s = has_either_name s (codes "ios") (codes "iOS")

  pub linux_asked : LacksOthers box of_linux → LacksOthers box has_known_name
  linux_asked = first_of box of_linux (λ s. has_windows_name s || (of_macos s || (of_android s || of_ios s)))

  pub windows_asked : LacksOthers box has_windows_name → LacksOthers box has_known_name
  windows_asked lacks =
      one_of_rest box of_linux (λ s. has_windows_name s || (of_macos s || (of_android s || of_ios s))) (first_of box has_windows_name (λ s. of_macos s || (of_android s || of_ios s)) lacks)

  last_three : LacksOthers box (λ s. of_macos s || (of_android s || of_ios s)) → LacksOthers box has_known_name
  last_three lacks =
      one_of_rest box of_linux (λ s. has_windows_name s || (of_macos s || (of_android s || of_ios s)))
      (one_of_rest box has_windows_name (λ s. of_macos s || (of_android s || of_ios s)) lacks)

  pub macos_asked : LacksOthers box of_macos → LacksOthers box has_known_name
  macos_asked lacks = last_three (first_of box of_macos (λ s. of_android s || of_ios s) lacks)

  pub android_asked : LacksOthers box of_android → LacksOthers box has_known_name
  android_asked lacks = last_three (one_of_rest box of_macos (λ s. of_android s || of_ios s) (first_of box of_android of_ios lacks))

  pub ios_asked : LacksOthers box of_ios → LacksOthers box has_known_name
  ios_asked lacks = last_three (one_of_rest box of_macos (λ s. of_android s || of_ios s) (one_of_rest box of_android of_ios lacks))

-- ---- systems

on_same : (e : Environment) (s t : System) → same_system s t ≡ true → IsOn e s → IsOn e t
on_same e s t same on =
    let (first, others) = and_parts (bytes_eq s.os t.os) (bytes_eq s.sys t.sys && bytes_eq s.platform t.platform) same in
    let (second, third) = and_parts (bytes_eq s.sys t.sys) (bytes_eq s.platform t.platform) others in
    record {
      os = on.os ∙ ap (λ x. Some (Text x)) ((bytes_eq-Decides s.os t.os).0 first);
      sys = on.sys ∙ ap (λ x. Some (Text x)) ((bytes_eq-Decides s.sys t.sys).0 second);
      platform = on.platform ∙ ap (λ x. Some (Text x)) ((bytes_eq-Decides s.platform t.platform).0 third);
    }

unknown : (b : Bool) → not b ≡ true → b ≡ false
unknown true is = absurd (true≢false (sym is))
unknown false is = refl

module _ (box : Box) (e : Environment) (s : System) (on : IsOn e s) where
  or_later : (t : System) (later : Bool) → LacksSystem box t → (later ≡ true → in_box e box ≡ false) → (same_system s t || later) ≡ true → in_box e box ≡ false
  or_later t later lacks others is = elim (either_is (same_system s t) later is) [
    | inl here ↦ lacks e (on_same e s t here on)
    | inr there ↦ others there
  ]

  pub known_lack : LacksSystem box (system (codes "posix") (codes "linux") (codes "Linux")) → LacksSystem box (system (codes "nt") (codes "win32") (codes "Windows"))
      → LacksSystem box (system (codes "posix") (codes "darwin") (codes "Darwin")) → LacksSystem box (system (codes "posix") (codes "android") (codes "Android"))
      → LacksSystem box (system (codes "posix") (codes "ios") (codes "iOS")) → is_known_system s ≡ true → in_box e box ≡ false
  known_lack linux windows macos android ios =
      or_later _ _ linux (or_later _ _ windows (or_later _ _ macos (or_later _ _ android (λ last. ios e (on_same e s _ last on)))))

-- no environment that has a system is in the box
pub all_lack : (box : Box) → LacksOthers box has_known_name → LacksSystem box (system (codes "posix") (codes "linux") (codes "Linux"))
    → LacksSystem box (system (codes "nt") (codes "win32") (codes "Windows")) → LacksSystem box (system (codes "posix") (codes "darwin") (codes "Darwin"))
    → LacksSystem box (system (codes "posix") (codes "android") (codes "Android")) → LacksSystem box (system (codes "posix") (codes "ios") (codes "iOS"))
    → (e : Environment) → HasSystem e → in_box e box ≡ false
all_lack box others linux windows macos android ios e has =
    let (s, on, is) = has in
    elim (either_is (is_known_system s) (not (has_known_name s)) is) [
      | inl known ↦ known_lack box e s on linux windows macos android ios known
      | inr other ↦ others s (unknown (has_known_name s) other) e on
    ]
