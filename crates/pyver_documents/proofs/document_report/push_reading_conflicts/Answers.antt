use Rattle.std.proofs.Common.{◌++◌, ◌∙◌, [], ap, map, refl, subst, sym}
use Rattle.std.proofs.lemmas.List.{map-append}
use Rattle.std.specs.List.{All}
use Rattle.pyver_documents.specs.Comparing.{FindsOfReading}
use Rattle.pyver_documents.specs.DocumentViews.{document_reading_of, string_reading_of}
use Rattle.pyver_documents.specs.Meanings.{IsSoundDocument, IsSoundString}
use Rattle.pyver_documents.specs.Together.{FindsOfParts}
use Rattle.pyver_findings.proofs.MarkedConflicts.{nothing_found}
use Rattle.pyver_findings.specs.Views.{finding_of}
use Rattle.pyver_documents.proofs.document_report.push_reading_conflicts.Goals as goal

pub project_conflicts-requires : goal.project_conflicts-requires
project_conflicts-requires c =
    subst (λ xs. All IsSoundString (map string_reading_of xs)) (sym c.as_slice-strings.ensures.value) (subst (λ r. IsSoundDocument (document_reading_of r)) c.in-Project.is c.requires)

pub returns-in_ok-append-in-Project : goal.returns-in_ok-append-in-Project
returns-in_ok-append-in-Project c =
    let p = c.in-Project.project in
    let (fs, cs, finds, adds, also) = c.in_ok-found-in-Project.ensures in
    let strings = subst (λ ss. FindsOfParts p.together (map (λ n. n.items) c.as_slice.result.now) (map string_reading_of ss) fs cs) c.as_slice-strings.ensures.value finds in
    let names = subst (λ ns. FindsOfParts p.together (map (λ n. n.items) ns) (map string_reading_of p.strings.items) fs cs) c.as_slice.ensures.value strings in (
      fs,
      cs,
      subst (λ r. FindsOfReading (document_reading_of r) fs cs) (sym c.in-Project.is) names,
      ap (map finding_of) c.in_ok-append-in-Project.ensures.items ∙ map-append finding_of c.args.findings.now.items c.in_ok-found-in-Project.found.items ∙ ap (λ l. map finding_of c.args.findings.now.items ++ l) adds,
      also,
    )

pub returns-in-Lock : goal.returns-in-Lock
returns-in-Lock c = nothing_found (FindsOfReading (document_reading_of c.args.reading.now)) _ _ _ _ (subst (λ r. FindsOfReading (document_reading_of r) [] []) (sym c.in-Lock.is) (refl, refl)) refl refl

pub returns-in-Broken : goal.returns-in-Broken
returns-in-Broken c = nothing_found (FindsOfReading (document_reading_of c.args.reading.now)) _ _ _ _ (subst (λ r. FindsOfReading (document_reading_of r) [] []) (sym c.in-Broken.is) (refl, refl)) refl refl
