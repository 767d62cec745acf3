use Rattle.std.proofs.Common.{◌≡◌, ◌∙◌, ◌+◌, ◌++◌, ◌∷◌, ◌≤◌, [], Ok, ap, arith, length, sym}
use Rattle.std.proofs.lemmas.Bool.{false≢true}
use Rattle.std.proofs.lemmas.List.{length-append}
use Rattle.std.specs.List.{flat_map}
use Rattle.std.specs.Result.{is_ok}
use Rattle.pep440_compiled.proofs.PrintedParts.{after_release, dots, dots_end, printed, ranks, release_ends, short_parts}
use Rattle.pep440_compiled.proofs.WrittenForm.{parts_denoted, parts_written, release_written}
use Rattle.pep440_compiled.proofs.stack_form.push_parts.Goals as goal
use Rattle.pep440_keys.specs.SortKeys.{local_bytes, number_bytes}
use Rattle.pep440_version.proofs.Reading.NormalParts.{parts_derive}
use Rattle.pep440_version.proofs.Reading.ReadIsDerived.{v_takes}
use Rattle.pep440_version.specs.Reading.{skip_v}
use Rattle.pep440_version.specs.Record.{from_parts}

pub returns-clause-form : goal.returns-clause-form
returns-clause-form c = λ _.
    let text = c.args.text.now in
    let letter = v_takes text in
    let parts = c.in-Some-split_suffix.parts in
    let before = c.in-Some.ensures.epoch in
    let pushed = c.in_ok-zeros.ensures.appended before.1 before.3 in
    let suffix = c.in-Some-split_suffix.ensures.suffix in
    let local = c.in_ok-push_local.ensures.appended c.if-not-branch.false in
    let derives = parts_derive text letter.0 (skip_v text) _ c.in_ok-zeros.suffix.now suffix.0 suffix.1 c.in-Some-split_suffix.local.now pushed.1 c.in-Some.epoch parts.pre parts.post parts.dev local.0
    letter.2 letter.1 (before.0, before.2, sym c.skip_letter.ensures ∙ before.4) (pushed.0, pushed.2, pushed.3) suffix.2 suffix.3 suffix.4 local.1 in
    parts_denoted c.args.text.now c.push_ones.new.form.items (from_parts c.in-Some.epoch pushed.1 parts.pre parts.post parts.dev local.0) derives
    (parts_written c.args.bytes.now.items c.append.new.self.items c.push_number.new.key.items c.push_numbers.new.form.items c.push_suffix_of.new.key.items c.push_local.new.form.items c.push_ones.new.form.items pushed.1
    c.in-Some.epoch parts.pre parts.post parts.dev local.0 c.in_ok-zeros.zeros c.requires c.in_ok-append.ensures.appended c.in_ok-push_number.ensures.appended pushed.5 c.in_ok-push_suffix_of.ensures.appended local.2 pushed.4
    c.in_ok-push_ones.ensures.appended)

pub returns-in_default-clause-short : goal.returns-in_default-clause-short
returns-in_default-clause-short c = λ r h e.
    let short = short_parts r h in
    let p = printed c.args.text.now r h.parsed e in
    let ends = dots_end p.others (after_release r) (release_ends r) in
    absurd (c.in_default.ensures.printed r.epoch p.first (dots p.others ++ after_release r) h.parsed.valid.epoch p.fit ends.0 ends.1 (c.skip_letter.ensures ∙ p.skipped))

pub returns-in_err-append-clause-short : goal.returns-in_err-append-clause-short
returns-in_err-append-clause-short c = λ r h e.
    let none : length c.args.bytes.now.items ≡ 0 = ap length c.requires in
    absurd (false≢true (c.in_err-append.ensures.fits 0 (omega (arith, none))).0)

pub returns-in_err-push_number-clause-short : goal.returns-in_err-push_number-clause-short
returns-in_err-push_number-clause-short c = λ r h e.
    let short = short_parts r h in
    let p = printed c.args.text.now r h.parsed e in
    let ends = dots_end p.others (after_release r) (release_ends r) in
    let begun = c.in-Some.ensures.printed r.epoch p.first (dots p.others ++ after_release r) h.parsed.valid.epoch p.fit ends.0 ends.1 (c.skip_letter.ensures ∙ p.skipped) in
    let epoch_bytes = ap (λ n. length (number_bytes 0 n)) begun.0 in
    let none : length c.args.bytes.now.items ≡ 0 = ap length c.requires in
    let room : length c.append.new.self.items + (length (number_bytes 0 c.in-Some.epoch) + (length (flat_map (number_bytes 1) r.release) + (length (0 ∷ ranks r.pre r.post r.dev) + length (local_bytes r.local)))) ≤ 64 =
    omega (arith, short, none, epoch_bytes, ap length c.in_ok-append.ensures.appended, length-append c.args.bytes.now.items (4 ∷ [])) in
    absurd (false≢true (c.in_err-push_number.ensures.fits _ room).0)

pub returns-in_err-zeros-clause-short : goal.returns-in_err-zeros-clause-short
returns-in_err-zeros-clause-short c = λ r h e.
    let short = short_parts r h in
    let p = printed c.args.text.now r h.parsed e in
    let ends = dots_end p.others (after_release r) (release_ends r) in
    let begun = c.in-Some.ensures.printed r.epoch p.first (dots p.others ++ after_release r) h.parsed.valid.epoch p.fit ends.0 ends.1 (c.skip_letter.ensures ∙ p.skipped) in
    let epoch_bytes = ap (λ n. length (number_bytes 0 n)) begun.0 in
    let numbers_bytes = ap (λ n. length (flat_map (number_bytes 1) (n ∷ p.others))) begun.1 in
    let release_bytes = ap (λ ns. length (flat_map (number_bytes 1) ns)) p.release in
    let none : length c.args.bytes.now.items ≡ 0 = ap length c.requires in
    let room : length c.append.new.self.items + (length (number_bytes 0 c.in-Some.epoch) + (length (flat_map (number_bytes 1) r.release) + (length (0 ∷ ranks r.pre r.post r.dev) + length (local_bytes r.local)))) ≤ 64 =
    omega (arith, short, none, epoch_bytes, ap length c.in_ok-append.ensures.appended, length-append c.args.bytes.now.items (4 ∷ [])) in
    let after_epoch : length c.push_number.new.key.items + (length (flat_map (number_bytes 1) r.release) + (length (0 ∷ ranks r.pre r.post r.dev) + length (local_bytes r.local))) ≤ 64 = (c.in_ok-push_number.ensures.fits _ room).1 in
    let capacity : length c.push_number.new.key.items + length (flat_map (number_bytes 1) (c.in-Some.first ∷ p.others)) ≤ 64 = omega (arith, after_epoch, numbers_bytes, release_bytes) in
    absurd (c.in_err-zeros.ensures.fits p.others (after_release r) p.fits (release_ends r).0 begun.2 capacity)

pub returns-in_default-split_suffix-clause-short : goal.returns-in_default-split_suffix-clause-short
returns-in_default-split_suffix-clause-short c = λ r h e.
    let short = short_parts r h in
    let p = printed c.args.text.now r h.parsed e in
    let ends = dots_end p.others (after_release r) (release_ends r) in
    let begun = c.in-Some.ensures.printed r.epoch p.first (dots p.others ++ after_release r) h.parsed.valid.epoch p.fit ends.0 ends.1 (c.skip_letter.ensures ∙ p.skipped) in
    let epoch_bytes = ap (λ n. length (number_bytes 0 n)) begun.0 in
    let numbers_bytes = ap (λ n. length (flat_map (number_bytes 1) (n ∷ p.others))) begun.1 in
    let release_bytes = ap (λ ns. length (flat_map (number_bytes 1) ns)) p.release in
    let none : length c.args.bytes.now.items ≡ 0 = ap length c.requires in
    let room : length c.append.new.self.items + (length (number_bytes 0 c.in-Some.epoch) + (length (flat_map (number_bytes 1) r.release) + (length (0 ∷ ranks r.pre r.post r.dev) + length (local_bytes r.local)))) ≤ 64 =
    omega (arith, short, none, epoch_bytes, ap length c.in_ok-append.ensures.appended, length-append c.args.bytes.now.items (4 ∷ [])) in
    let after_epoch : length c.push_number.new.key.items + (length (flat_map (number_bytes 1) r.release) + (length (0 ∷ ranks r.pre r.post r.dev) + length (local_bytes r.local))) ≤ 64 = (c.in_ok-push_number.ensures.fits _ room).1 in
    let capacity : length c.push_number.new.key.items + length (flat_map (number_bytes 1) (c.in-Some.first ∷ p.others)) ≤ 64 = omega (arith, after_epoch, numbers_bytes, release_bytes) in
    let numbers = c.in_ok-zeros.ensures.fits p.others (after_release r) p.fits (release_ends r).0 begun.2 capacity in
    absurd (c.in_default-split_suffix.ensures.printed r.pre r.post r.dev r.local h.parsed.valid.pre h.parsed.valid.post h.parsed.valid.dev numbers.1)

pub returns-in_err-push_suffix_of-clause-short : goal.returns-in_err-push_suffix_of-clause-short
returns-in_err-push_suffix_of-clause-short c = λ r h e.
    let short = short_parts r h in
    let p = printed c.args.text.now r h.parsed e in
    let ends = dots_end p.others (after_release r) (release_ends r) in
    let begun = c.in-Some.ensures.printed r.epoch p.first (dots p.others ++ after_release r) h.parsed.valid.epoch p.fit ends.0 ends.1 (c.skip_letter.ensures ∙ p.skipped) in
    let epoch_bytes = ap (λ n. length (number_bytes 0 n)) begun.0 in
    let numbers_bytes = ap (λ n. length (flat_map (number_bytes 1) (n ∷ p.others))) begun.1 in
    let release_bytes = ap (λ ns. length (flat_map (number_bytes 1) ns)) p.release in
    let none : length c.args.bytes.now.items ≡ 0 = ap length c.requires in
    let room : length c.append.new.self.items + (length (number_bytes 0 c.in-Some.epoch) + (length (flat_map (number_bytes 1) r.release) + (length (0 ∷ ranks r.pre r.post r.dev) + length (local_bytes r.local)))) ≤ 64 =
    omega (arith, short, none, epoch_bytes, ap length c.in_ok-append.ensures.appended, length-append c.args.bytes.now.items (4 ∷ [])) in
    let after_epoch : length c.push_number.new.key.items + (length (flat_map (number_bytes 1) r.release) + (length (0 ∷ ranks r.pre r.post r.dev) + length (local_bytes r.local))) ≤ 64 = (c.in_ok-push_number.ensures.fits _ room).1 in
    let capacity : length c.push_number.new.key.items + length (flat_map (number_bytes 1) (c.in-Some.first ∷ p.others)) ≤ 64 = omega (arith, after_epoch, numbers_bytes, release_bytes) in
    let numbers = c.in_ok-zeros.ensures.fits p.others (after_release r) p.fits (release_ends r).0 begun.2 capacity in
    let same : c.in-Some.first ∷ p.others ≡ r.release = ap (λ n. n ∷ p.others) begun.1 ∙ p.release in
    let written : length c.push_numbers.new.form.items + c.in_ok-zeros.zeros ≡ length c.push_number.new.key.items + length (flat_map (number_bytes 1) r.release) =
    release_written c.push_number.new.key.items c.push_numbers.new.form.items (c.in-Some.first ∷ p.others) r.release c.in_ok-zeros.zeros same numbers.0 numbers.2 in
    let parts = c.in-Some-split_suffix.parts in
    let split = c.in-Some-split_suffix.ensures.printed r.pre r.post r.dev r.local h.parsed.valid.pre h.parsed.valid.post h.parsed.valid.dev numbers.1 in
    let suffix : length (0 ∷ ranks parts.pre parts.post parts.dev) ≡ length (0 ∷ ranks r.pre r.post r.dev) = λ i. length (0 ∷ ranks (split.0 i) (split.1 i) (split.2 i)) in
    let room_for_suffix : length c.push_numbers.new.form.items + (length (0 ∷ ranks parts.pre parts.post parts.dev) + (length (local_bytes r.local) + c.in_ok-zeros.zeros)) ≤ 64 = omega (arith, after_epoch, written, suffix) in
    absurd (false≢true (c.in_err-push_suffix_of.ensures.fits _ room_for_suffix).0)

pub returns-in_err-push_local-clause-short : goal.returns-in_err-push_local-clause-short
returns-in_err-push_local-clause-short c = λ r h e.
    let short = short_parts r h in
    let p = printed c.args.text.now r h.parsed e in
    let ends = dots_end p.others (after_release r) (release_ends r) in
    let begun = c.in-Some.ensures.printed r.epoch p.first (dots p.others ++ after_release r) h.parsed.valid.epoch p.fit ends.0 ends.1 (c.skip_letter.ensures ∙ p.skipped) in
    let epoch_bytes = ap (λ n. length (number_bytes 0 n)) begun.0 in
    let numbers_bytes = ap (λ n. length (flat_map (number_bytes 1) (n ∷ p.others))) begun.1 in
    let release_bytes = ap (λ ns. length (flat_map (number_bytes 1) ns)) p.release in
    let none : length c.args.bytes.now.items ≡ 0 = ap length c.requires in
    let room : length c.append.new.self.items + (length (number_bytes 0 c.in-Some.epoch) + (length (flat_map (number_bytes 1) r.release) + (length (0 ∷ ranks r.pre r.post r.dev) + length (local_bytes r.local)))) ≤ 64 =
    omega (arith, short, none, epoch_bytes, ap length c.in_ok-append.ensures.appended, length-append c.args.bytes.now.items (4 ∷ [])) in
    let after_epoch : length c.push_number.new.key.items + (length (flat_map (number_bytes 1) r.release) + (length (0 ∷ ranks r.pre r.post r.dev) + length (local_bytes r.local))) ≤ 64 = (c.in_ok-push_number.ensures.fits _ room).1 in
    let capacity : length c.push_number.new.key.items + length (flat_map (number_bytes 1) (c.in-Some.first ∷ p.others)) ≤ 64 = omega (arith, after_epoch, numbers_bytes, release_bytes) in
    let numbers = c.in_ok-zeros.ensures.fits p.others (after_release r) p.fits (release_ends r).0 begun.2 capacity in
    let same : c.in-Some.first ∷ p.others ≡ r.release = ap (λ n. n ∷ p.others) begun.1 ∙ p.release in
    let written : length c.push_numbers.new.form.items + c.in_ok-zeros.zeros ≡ length c.push_number.new.key.items + length (flat_map (number_bytes 1) r.release) =
    release_written c.push_number.new.key.items c.push_numbers.new.form.items (c.in-Some.first ∷ p.others) r.release c.in_ok-zeros.zeros same numbers.0 numbers.2 in
    let parts = c.in-Some-split_suffix.parts in
    let split = c.in-Some-split_suffix.ensures.printed r.pre r.post r.dev r.local h.parsed.valid.pre h.parsed.valid.post h.parsed.valid.dev numbers.1 in
    let suffix : length (0 ∷ ranks parts.pre parts.post parts.dev) ≡ length (0 ∷ ranks r.pre r.post r.dev) = λ i. length (0 ∷ ranks (split.0 i) (split.1 i) (split.2 i)) in
    let room_for_suffix : length c.push_numbers.new.form.items + (length (0 ∷ ranks parts.pre parts.post parts.dev) + (length (local_bytes r.local) + c.in_ok-zeros.zeros)) ≤ 64 = omega (arith, after_epoch, written, suffix) in
    let after_suffix : length c.push_suffix_of.new.key.items + (length (local_bytes r.local) + c.in_ok-zeros.zeros) ≤ 64 = (c.in_ok-push_suffix_of.ensures.fits _ room_for_suffix).1 in
    let local = c.in_err-push_local.ensures.fits r.local h.parsed.valid.local h.parsed.round_trips.local split.3 (omega (arith, after_suffix)) in
    absurd (false≢true (ap is_ok local.0))

pub returns-then-not-branch-clause-short : goal.returns-then-not-branch-clause-short
returns-then-not-branch-clause-short c = λ r h e.
    let short = short_parts r h in
    let p = printed c.args.text.now r h.parsed e in
    let ends = dots_end p.others (after_release r) (release_ends r) in
    let begun = c.in-Some.ensures.printed r.epoch p.first (dots p.others ++ after_release r) h.parsed.valid.epoch p.fit ends.0 ends.1 (c.skip_letter.ensures ∙ p.skipped) in
    let epoch_bytes = ap (λ n. length (number_bytes 0 n)) begun.0 in
    let numbers_bytes = ap (λ n. length (flat_map (number_bytes 1) (n ∷ p.others))) begun.1 in
    let release_bytes = ap (λ ns. length (flat_map (number_bytes 1) ns)) p.release in
    let none : length c.args.bytes.now.items ≡ 0 = ap length c.requires in
    let room : length c.append.new.self.items + (length (number_bytes 0 c.in-Some.epoch) + (length (flat_map (number_bytes 1) r.release) + (length (0 ∷ ranks r.pre r.post r.dev) + length (local_bytes r.local)))) ≤ 64 =
    omega (arith, short, none, epoch_bytes, ap length c.in_ok-append.ensures.appended, length-append c.args.bytes.now.items (4 ∷ [])) in
    let after_epoch : length c.push_number.new.key.items + (length (flat_map (number_bytes 1) r.release) + (length (0 ∷ ranks r.pre r.post r.dev) + length (local_bytes r.local))) ≤ 64 = (c.in_ok-push_number.ensures.fits _ room).1 in
    let capacity : length c.push_number.new.key.items + length (flat_map (number_bytes 1) (c.in-Some.first ∷ p.others)) ≤ 64 = omega (arith, after_epoch, numbers_bytes, release_bytes) in
    let numbers = c.in_ok-zeros.ensures.fits p.others (after_release r) p.fits (release_ends r).0 begun.2 capacity in
    let same : c.in-Some.first ∷ p.others ≡ r.release = ap (λ n. n ∷ p.others) begun.1 ∙ p.release in
    let written : length c.push_numbers.new.form.items + c.in_ok-zeros.zeros ≡ length c.push_number.new.key.items + length (flat_map (number_bytes 1) r.release) =
    release_written c.push_number.new.key.items c.push_numbers.new.form.items (c.in-Some.first ∷ p.others) r.release c.in_ok-zeros.zeros same numbers.0 numbers.2 in
    let parts = c.in-Some-split_suffix.parts in
    let split = c.in-Some-split_suffix.ensures.printed r.pre r.post r.dev r.local h.parsed.valid.pre h.parsed.valid.post h.parsed.valid.dev numbers.1 in
    let suffix : length (0 ∷ ranks parts.pre parts.post parts.dev) ≡ length (0 ∷ ranks r.pre r.post r.dev) = λ i. length (0 ∷ ranks (split.0 i) (split.1 i) (split.2 i)) in
    let room_for_suffix : length c.push_numbers.new.form.items + (length (0 ∷ ranks parts.pre parts.post parts.dev) + (length (local_bytes r.local) + c.in_ok-zeros.zeros)) ≤ 64 = omega (arith, after_epoch, written, suffix) in
    let after_suffix : length c.push_suffix_of.new.key.items + (length (local_bytes r.local) + c.in_ok-zeros.zeros) ≤ 64 = (c.in_ok-push_suffix_of.ensures.fits _ room_for_suffix).1 in
    let local = c.in_ok-push_local.ensures.fits r.local h.parsed.valid.local h.parsed.round_trips.local split.3 (omega (arith, after_suffix)) in
    ap Ok (sym c.if-not-branch.true) ∙ local.0

pub returns-in_err-push_ones-clause-short : goal.returns-in_err-push_ones-clause-short
returns-in_err-push_ones-clause-short c = λ r h e.
    let short = short_parts r h in
    let p = printed c.args.text.now r h.parsed e in
    let ends = dots_end p.others (after_release r) (release_ends r) in
    let begun = c.in-Some.ensures.printed r.epoch p.first (dots p.others ++ after_release r) h.parsed.valid.epoch p.fit ends.0 ends.1 (c.skip_letter.ensures ∙ p.skipped) in
    let epoch_bytes = ap (λ n. length (number_bytes 0 n)) begun.0 in
    let numbers_bytes = ap (λ n. length (flat_map (number_bytes 1) (n ∷ p.others))) begun.1 in
    let release_bytes = ap (λ ns. length (flat_map (number_bytes 1) ns)) p.release in
    let none : length c.args.bytes.now.items ≡ 0 = ap length c.requires in
    let room : length c.append.new.self.items + (length (number_bytes 0 c.in-Some.epoch) + (length (flat_map (number_bytes 1) r.release) + (length (0 ∷ ranks r.pre r.post r.dev) + length (local_bytes r.local)))) ≤ 64 =
    omega (arith, short, none, epoch_bytes, ap length c.in_ok-append.ensures.appended, length-append c.args.bytes.now.items (4 ∷ [])) in
    let after_epoch : length c.push_number.new.key.items + (length (flat_map (number_bytes 1) r.release) + (length (0 ∷ ranks r.pre r.post r.dev) + length (local_bytes r.local))) ≤ 64 = (c.in_ok-push_number.ensures.fits _ room).1 in
    let capacity : length c.push_number.new.key.items + length (flat_map (number_bytes 1) (c.in-Some.first ∷ p.others)) ≤ 64 = omega (arith, after_epoch, numbers_bytes, release_bytes) in
    let numbers = c.in_ok-zeros.ensures.fits p.others (after_release r) p.fits (release_ends r).0 begun.2 capacity in
    let same : c.in-Some.first ∷ p.others ≡ r.release = ap (λ n. n ∷ p.others) begun.1 ∙ p.release in
    let written : length c.push_numbers.new.form.items + c.in_ok-zeros.zeros ≡ length c.push_number.new.key.items + length (flat_map (number_bytes 1) r.release) =
    release_written c.push_number.new.key.items c.push_numbers.new.form.items (c.in-Some.first ∷ p.others) r.release c.in_ok-zeros.zeros same numbers.0 numbers.2 in
    let parts = c.in-Some-split_suffix.parts in
    let split = c.in-Some-split_suffix.ensures.printed r.pre r.post r.dev r.local h.parsed.valid.pre h.parsed.valid.post h.parsed.valid.dev numbers.1 in
    let suffix : length (0 ∷ ranks parts.pre parts.post parts.dev) ≡ length (0 ∷ ranks r.pre r.post r.dev) = λ i. length (0 ∷ ranks (split.0 i) (split.1 i) (split.2 i)) in
    let room_for_suffix : length c.push_numbers.new.form.items + (length (0 ∷ ranks parts.pre parts.post parts.dev) + (length (local_bytes r.local) + c.in_ok-zeros.zeros)) ≤ 64 = omega (arith, after_epoch, written, suffix) in
    let after_suffix : length c.push_suffix_of.new.key.items + (length (local_bytes r.local) + c.in_ok-zeros.zeros) ≤ 64 = (c.in_ok-push_suffix_of.ensures.fits _ room_for_suffix).1 in
    let local = c.in_ok-push_local.ensures.fits r.local h.parsed.valid.local h.parsed.round_trips.local split.3 (omega (arith, after_suffix)) in
    let left : length c.push_local.new.form.items + c.in_ok-zeros.zeros ≤ 64 = omega (arith, after_suffix, ap length local.1, length-append c.push_suffix_of.new.key.items (local_bytes r.local)) in
    absurd (false≢true (c.in_err-push_ones.ensures.fits left))
