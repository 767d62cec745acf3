use Rattle.std.proofs.Common.{◌≡◌, ◌∙◌, ap, map, subst}
use Rattle.std.specs.List.{AllZip}
use Rattle.toml.specs.View.{table_view}
use Rattle.pyver_documents.specs.DocumentViews.{groups_of, string_reading_of}
use Rattle.pyver_documents.specs.Meanings.{Groups, groups, inclusions, IsProject, IsStringReading}
use Rattle.pyver_findings.specs.FileLines.{File}
use Rattle.pyver_projects.specs.ProjectStrings.{ProjectString, inclusion_of, project_string_of}
use Rattle.pyver_projects.specs.ProjectTables.{extra_names, group_names, sources}
use Rattle.pyver_documents.proofs.document_reading.read_project.Goals as goal

pub returns : goal.returns
returns c =
    let t = table_view c.args.table in
    let all = groups_of c.in_ok-groups.groups in
    let xs = map string_reading_of c.in_ok-strings-2.strings.items in
    let names : map (λ n. n.items) c.as_slice-2.result.now ≡ group_names t = ap (map (λ n. n.items)) c.as_slice-2.ensures.value ∙ c.in_ok-names.ensures in
    let strings : map project_string_of c.as_slice.result.now ≡ sources t = ap (map project_string_of) c.as_slice.ensures.value ∙ c.in_ok-strings.ensures in
    let extras : map (λ n. n.items) c.as_slice-4.result.now ≡ extra_names t = ap (map (λ n. n.items)) c.as_slice-4.ensures.value ∙ c.in_ok-extras.ensures in
    let again : map project_string_of c.as_slice-6.result.now ≡ sources t = ap (map project_string_of) c.as_slice-6.ensures.value ∙ c.in_ok-strings.ensures in
    let is : map inclusion_of c.as_slice-3.result.now ≡ inclusions (map (λ (s : ProjectString). s.section) (sources t)) =
    ap (map inclusion_of) c.as_slice-3.ensures.value ∙ c.in_ok-inclusions.ensures ∙ ap (λ ss. inclusions (map (λ (s : ProjectString). s.section) ss)) strings in
    let same : all ≡ groups t = c.in_ok-groups.ensures.groups ∙ (λ j. record { names = names j; inclusions = is j; extras = extras j }) in
    let text : c.in_ok-places.places.quoted.text.now ≡ c.args.text.now = c.in_ok-places.ensures.text ∙ c.as_bytes-2.ensures.value in
    let file : File = record { name = c.args.name.now; text = c.args.text.now } in
    let read : AllZip (IsStringReading all file) (map project_string_of c.as_slice-6.result.now) xs =
    subst (λ bytes. AllZip (IsStringReading all (record { name = c.args.name.now; text = bytes })) (map project_string_of c.as_slice-6.result.now) xs) text c.in_ok-strings-2.ensures in
    (xs, subst (λ (g : Groups). AllZip (IsStringReading g file) (sources t) xs) same (subst (λ ss. AllZip (IsStringReading all file) ss xs) again read), λ j. IsProject t (c.has_group_tool-together.ensures j) (c.in_ok-name.ensures j) (c.in_ok-overridden.ensures j) xs)
