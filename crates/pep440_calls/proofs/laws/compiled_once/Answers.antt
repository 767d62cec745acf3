-- Compiled forms: one of each version and list, which denotes what the bytes denote that it was made of.
use Rattle.std.proofs.Common.{◌≡◌, ◌∙◌, ℕ, List, sym, ap, inr, subst}
use Rattle.std.specs.Prelude.{◌↔◌}
use Rattle.pep440_compiled.proofs.Fronts.{one_denoted}
use Rattle.pep440_compiled.proofs.Listed.{form_denotes, one_denoted_list, one_form as one_form_of_list}
use Rattle.pep440_compiled.specs.Lists.{DenotesList, IsListForm}
use Rattle.pep440_compiled.specs.Version.{DenotesVersion, compiled_bytes}
use Rattle.pep440_rs.specs.Specifiers.{Spec}
use Rattle.pep440_version.specs.Record.{Record}
use Rattle.pep440_calls.proofs.Once.{one_bytes_list, one_version}
use Rattle.pep440_calls.proofs.laws.compiled_once.Goals as goal
use Rattle.pep440_calls.specs.CallResults.{IsCompiled, IsCompiledList}
use Rattle.pep440_calls.specs.CallerBytes.{BytesDenote, BytesDenoteList}

same_compiled : (s t a b : List ℕ) (r q : Record) → IsCompiled s a → IsCompiled t b → BytesDenote s r → BytesDenote t q → (a ≡ b) ↔ (r ≡ q)
same_compiled s t a b r q (v, v_means, v_denotes) (w, w_means, w_denotes) means also =
    let left : v ≡ r = one_version s v r v_means means in
    let right : w ≡ q = one_version t w q w_means also in (
      λ p. sym left ∙ one_denoted b v w (subst (λ x. DenotesVersion x v) p v_denotes) w_denotes ∙ right,
      λ p. v_denotes.same ∙ (ap compiled_bytes (left ∙ p ∙ sym right) ∙ sym w_denotes.same),
    )

one_form : (text a b : List ℕ) → IsCompiled text a → IsCompiled text b → a ≡ b
one_form text a b (r, means, denotes) (q, also, again) = denotes.same ∙ (ap compiled_bytes (one_version text r q means also) ∙ sym again.same)

same_version : (text compiled : List ℕ) (q : Record) → IsCompiled text compiled → BytesDenote text q ↔ BytesDenote compiled q
same_version text compiled q (r, means, denotes) = (
  λ also. inr (subst (DenotesVersion compiled) (one_version text r q means also) denotes),
  λ also. subst (BytesDenote text) (one_version compiled r q (inr denotes) also) means,
)

same_compiled_list : (s t a b : List ℕ) (l m : List Spec) → IsCompiledList s a → IsCompiledList t b → BytesDenoteList s l → BytesDenoteList t m → (a ≡ b) ↔ (l ≡ m)
same_compiled_list s t a b l m (v, v_means, v_denotes) (w, w_means, w_denotes) means also =
    let left : v ≡ l = one_bytes_list s v l v_means means in
    let right : w ≡ m = one_bytes_list t w m w_means also in (
      λ p. sym left ∙ one_denoted_list b v w (form_denotes b v (subst (λ x. IsListForm x v) p v_denotes)) (form_denotes b w w_denotes) ∙ right,
      λ p. one_form_of_list a b w (subst (IsListForm a) (left ∙ p ∙ sym right) v_denotes) w_denotes,
    )

one_list_form : (text a b : List ℕ) → IsCompiledList text a → IsCompiledList text b → a ≡ b
one_list_form text a b (l, means, denotes) (m, also, again) = one_form_of_list a b m (subst (IsListForm a) (one_bytes_list text l m means also) denotes) again

same_list : (text compiled : List ℕ) (m : List Spec) → IsCompiledList text compiled → BytesDenoteList text m ↔ BytesDenoteList compiled m
same_list text compiled m (l, means, denotes) = (
  λ also. inr (subst (DenotesList compiled) (one_bytes_list text l m means also) (form_denotes compiled l denotes)),
  λ also. subst (BytesDenoteList text) (one_bytes_list compiled l m (inr (form_denotes compiled l denotes)) also) means,
)

pub returns-clause-one : goal.returns-clause-one
returns-clause-one c = one_form

pub returns-clause-same : goal.returns-clause-same
returns-clause-same c = same_compiled

pub returns-clause-version : goal.returns-clause-version
returns-clause-version c = same_version

pub returns-clause-one_list : goal.returns-clause-one_list
returns-clause-one_list c = one_list_form

pub returns-clause-same_list : goal.returns-clause-same_list
returns-clause-same_list c = same_compiled_list

pub returns-clause-list : goal.returns-clause-list
returns-clause-list c = same_list
