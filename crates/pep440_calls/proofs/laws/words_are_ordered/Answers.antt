-- Words of strings: at most one each, and in the order of the versions.
use Rattle.std.proofs.Common.{◌≡◌, ◌∙◌, ℕ, List, Some, None, ap, if◌then◌else◌}
use Rattle.std.specs.Ordering.{nat_cmp}
use Rattle.pep440_version.proofs.Words.Order.{lent_order}
use Rattle.pep440_version.specs.Key.{record_cmp}
use Rattle.pep440_version.specs.Record.{Record}
use Rattle.pep440_version.specs.Word.{is_packed, word}
use Rattle.pep440_calls.proofs.Once.{one_version}
use Rattle.pep440_calls.proofs.laws.words_are_ordered.Goals as goal
use Rattle.pep440_calls.specs.CallResults.{IsPackedWord}
use Rattle.pep440_calls.specs.CallerBytes.{BytesDenote}

of_record : (bytes : List ℕ) (m : ℕ) (r : Record) → IsPackedWord bytes (Some m) → BytesDenote bytes r → Some m ≡ (if is_packed r then Some (word r) else None)
of_record bytes m r (q, means, is) other = is ∙ ap (λ (p : Record). if is_packed p then Some (word p) else None) (one_version bytes q r means other)

one_word : (bytes : List ℕ) (m n : ℕ) → IsPackedWord bytes (Some m) → IsPackedWord bytes (Some n) → m ≡ n
one_word bytes m n (r, means, is) other = let same : Some n ≡ (if is_packed r then Some (word r) else None) = of_record bytes n r other means in cc

in_order : (a b : List ℕ) (m n : ℕ) (r q : Record) → IsPackedWord a (Some m) → IsPackedWord b (Some n) → BytesDenote a r → BytesDenote b q → nat_cmp m n ≡ record_cmp r q
in_order a b m n r q first second means other = lent_order r q m n (of_record a m r first means) (of_record b n q second other)

pub returns-clause-one : goal.returns-clause-one
returns-clause-one c = one_word

pub returns-clause-ordered : goal.returns-clause-ordered
returns-clause-ordered c = in_order
