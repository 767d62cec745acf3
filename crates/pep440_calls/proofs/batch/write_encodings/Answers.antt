use Rattle.std.proofs.Common.{Bor, List, ℕ, ◌≡◌, ◌∙◌, ap, inl, inr, map, refl, subst}
use Rattle.std.specs.List.{AllZip}
use Rattle.pep440_calls.proofs.batch.write_encodings.Goals as goal
use Rattle.pep440_calls.specs.Batches.{EncodingsResult, encoding_bytes}
use Rattle.pep440_calls.specs.CallerBytes.{BytesDenote}
use Rattle.pep440_calls.specs.Statuses.{Joins, WritesStrings}
use Rattle.pep440_version.specs.Record.{Record}

-- views of the versions that the strings denote are written as these
views_written : (encode : Record → List ℕ) (texts views : List (List ℕ)) (old new old_ends ends : List ℕ) (old_written written at status : ℕ)
    → ((versions : List Record) × AllZip BytesDenote texts versions × (views ≡ map encode versions)) → WritesStrings views old new old_ends ends old_written written status
    → EncodingsResult encode texts old new old_ends ends old_written written at at status
views_written encode texts views old new old_ends ends old_written written at status (versions, all, same) (inl (bytes, places, joins, count, both)) =
    inl (bytes, places, (versions, all, subst (λ l. Joins l bytes places) same joins), count, both, refl)
views_written encode texts views old new old_ends ends old_written written at status read (inr (same, same_ends, same_written, none)) = inr (same, same_ends, same_written, inr (none, refl))

pub returns-in-Ok-Some : goal.returns-in-Ok-Some
returns-in-Ok-Some c =
    let now : List (Bor (List ℕ)) → List (List ℕ) = map (λ k. k.now) in
    let read = rw c.in-Ok-Some.field-0-is at (rw c.in-Ok-Some.is at c.view_encodings.ensures) in
    views_written (encoding_bytes c.args.encoding) (now c.args.texts.now) (now c.as_slice.result.now) c.args.out.now c.put_strings.new.out c.args.ends.now c.put_strings.new.ends c.args.written.now c.put_strings.new.written c.args.at.now
    c.put_strings.result (read.0, read.1, ap now c.as_slice.ensures.value ∙ read.2) c.put_strings.ensures
