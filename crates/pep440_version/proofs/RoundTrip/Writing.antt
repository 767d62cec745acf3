-- What a formatter has written, in parts.
use mathlib.Core.Bool.{true≢false}
use mathlib.Core.List.{append-nil, append_assoc}
use Rattle.std.proofs.Common.{◌≡◌, ◌<◌, ◌+◌, ◌++◌, ◌∙◌, ap, sym, ℕ, List, [], ◌∷◌, refl, length, take, get_or, drop, ◌-◌, ◌≤◌, arith, codes, map, false, ◌==◌}
use Rattle.std.proofs.lemmas.List.{take_all}
use Rattle.std.specs.List.{FoldsTo, concat, flat_map}
use Rattle.std.proofs.lemmas.List.{flat_map_more, take_more}
use Rattle.std.proofs.lemmas.List.Folds.{flat_map-map}
use Rattle.std.specs.Fmt.{decimal}
use Rattle.std.specs.declared.fmt.Formatter.{Formatter}
use Rattle.std.specs.declared.fmt.InlineText.{InlineText}
use Rattle.std.specs.Fmt.{HasWrittenStyled, IsFlush, WritesInCalls}
use Rattle.std.specs.Fmt.InlineText.{inline_text, IsIntact, AppendsIfIntact}
use Rattle.std.proofs.Output.{has_written_styled_append}
use Rattle.pep440_version.specs.declared.segment.LocalSegment.{LocalSegment}
use Rattle.pep440_version.specs.Print.{dotted, print_segment, local_text}
use Rattle.pep440_version.specs.Segments.{segment}

pub flat_map_take : {X A : Type 0} (f : X → List A) (xs : List X) (i : ℕ) (d : X) → i < length xs → flat_map f (take i xs) ++ f (get_or xs i d) ≡ flat_map f (take (i + 1) xs)
flat_map_take f xs i d inside = flat_map_more f [] (take i xs) (get_or xs i d) ∙ ap (flat_map f) (sym (take_more xs i d inside))

-- the first item and, after dots, the others
dotted_items : {A : Type 0} (text : A → List ℕ) (xs : List A) (d : A) → 1 ≤ length xs
    → text (get_or xs 0 d) ++ flat_map (λ y. codes "." ++ text y) (take (length xs - 1) (drop 1 xs)) ≡ dotted text xs
dotted_items text [] d some = absurd (omega arith)
dotted_items text (x ∷ xs) d some =
    let count : length (x ∷ xs) - 1 ≡ length xs = omega arith in
    rw (count, take_all (length xs) xs (omega arith)) refl

pub dotted_prefix : (xs : List ℕ) → 1 ≤ length xs → decimal (get_or xs 0 0) ++ flat_map (λ n. codes "." ++ decimal n) (take (length xs - 1) (drop 1 xs)) ≡ dotted decimal xs
dotted_prefix xs some = dotted_items decimal xs 0 some

pub flat_map_item : {X A : Type 0} (f : X → List A) (xs : List X) (i : ℕ) (x : X) → x ≡ get_or xs i x → i < length xs → flat_map f (take i xs) ++ f x ≡ flat_map f (take (i + 1) xs)
flat_map_item f xs i x is inside = ap (λ y. flat_map f (take i xs) ++ f y) is ∙ flat_map_take f xs i x inside

dotted_map : {X Y : Type 0} (g : X → Y) (text : Y → List ℕ) (xs : List X) → dotted (λ x. text (g x)) xs ≡ dotted text (map g xs)
dotted_map g text [] = refl
dotted_map g text (x ∷ xs) = ap (λ l. text (g x) ++ l) (sym (flat_map-map (λ y. codes "." ++ text y) g xs))

pub segments_prefix : (xs : List LocalSegment) (x : LocalSegment) → x ≡ get_or xs 0 x → 1 ≤ length xs
    → print_segment (segment x) ++ flat_map (λ s. codes "." ++ print_segment (segment s)) (take (length xs - 1) (drop 1 xs)) ≡ dotted print_segment (map segment xs)
segments_prefix xs x is some =
    ap (λ y. print_segment (segment y) ++ flat_map (λ s. codes "." ++ print_segment (segment s)) (take (length xs - 1) (drop 1 xs))) is
    ∙ dotted_items (λ s. print_segment (segment s)) xs x some
    ∙ dotted_map segment print_segment xs

-- a plus before the segments, where there are some
pub with_plus : (xs : List LocalSegment) → (length xs == 0) ≡ false → codes "+" ++ dotted print_segment (map segment xs) ≡ local_text (map segment xs)
with_plus [] some = absurd (true≢false some)
with_plus (x ∷ xs) some = refl

pub two_writes : {W : Type 0} {took : W → List ℕ → W → Type 0} {f g h : Formatter W} {a b : List ℕ} → HasWrittenStyled took f a g → (IsFlush g → HasWrittenStyled took g b h) → HasWrittenStyled took f (a ++ b) h
two_writes {W} {took} {f} {g} {h} {a} {b} p q = has_written_styled_append took f a g b h p (q p.flush)

-- a buffer has what was written into it, one write after another
buffer_after : {n : ℕ} (s : InlineText n) (parts : List (List ℕ)) (t : InlineText n) → IsIntact s → FoldsTo AppendsIfIntact s parts t → inline_text t ≡ inline_text s ++ concat parts
buffer_after s [] t intact same = ap inline_text (sym same) ∙ sym (append-nil (inline_text s))
buffer_after s (x ∷ parts) t intact (u, first, others) =
    let now = first intact in
    buffer_after u parts t now.0 others ∙ ap (λ l. l ++ concat parts) now.1 ∙ append_assoc (inline_text s) x (concat parts)

pub buffer_has : {n : ℕ} (s : InlineText n) (bs : List ℕ) (t : InlineText n) → inline_text s ≡ [] → IsIntact s → WritesInCalls AppendsIfIntact s bs t → inline_text t ≡ bs
buffer_has s bs t empty intact wrote = buffer_after s wrote.parts t intact wrote.calls ∙ rw (empty, wrote.whole) refl
