use Rattle.std.proofs.Common.{◌≡◌, ◌∙◌, ◌+◌, ◌<◌, drop, get_or, length, map, subst}
use Rattle.pyver_tool.proofs.RunEnds.{items_from, seek_found, seek_passed}
use Rattle.pyver_tool.specs.RequirementFiles.{search_of}
use Rattle.pyver_tool.proofs.requirement_files.RequirementFiles.seek_first.Goals as goal

pub returns-then-branch-clause-read : goal.returns-then-branch-clause-read
returns-then-branch-clause-read g c =
    let known = g.F.Files.known c.args.files.now in
    let paths = g.F.Files.path c.args.files.now in
    let here = c.loop-name in
    let items = c.args.search.now.names.items in
    let inside = subst (λ xs. here.name-index < length xs) c.deref-name-items.ensures.value c.loop-name-test.true in
    let at = subst (λ xs. c.name-item.result ≡ get_or xs here.name-index c.name-item.result) c.deref-name-items.ensures.value c.name-item.is in
    seek_found c.args.kind known paths g.R.Read.remaining (g.F.Files.known here.files) (g.F.Files.path here.files) here.invariant.3 here.invariant.4 c.args.self.now here.self c.seek_name.new.self here.invariant.1
    c.args.input.now here.input c.seek_name.new.input here.invariant.2 (search_of c.args.search.now) _ (map (λ name. name.items) (drop (here.name-index + 1) items)) c.name-item.result.items _ c.as_slice.ensures.value
    (items_from (λ name. name.items) items here.name-index c.name-item.result inside at) here.invariant.0 c.in_ok-seek_name.field-0 c.if-branch.true c.in_ok-seek_name.ensures.read

pub loop-name-preserved : goal.loop-name-preserved
loop-name-preserved g c =
    let known = g.F.Files.known c.args.files.now in
    let paths = g.F.Files.path c.args.files.now in
    let here = c.loop-name in
    let items = c.args.search.now.names.items in
    let inside = subst (λ xs. here.name-index < length xs) c.deref-name-items.ensures.value c.loop-name-test.true in
    let at = subst (λ xs. c.name-item.result ≡ get_or xs here.name-index c.name-item.result) c.deref-name-items.ensures.value c.name-item.is in
    let passed =
    seek_passed c.args.kind known paths g.R.Read.remaining (g.F.Files.known here.files) (g.F.Files.path here.files) here.invariant.3 here.invariant.4 c.args.self.now here.self c.seek_name.new.self here.invariant.1
    c.args.input.now here.input c.seek_name.new.input here.invariant.2 (search_of c.args.search.now) (map (λ name. name.items) (drop here.name-index items)) (map (λ name. name.items) (drop (here.name-index + 1) items)) c.name-item.result.items c.as_slice.result.now c.as_slice.ensures.value
    (items_from (λ name. name.items) items here.name-index c.name-item.result inside at) here.invariant.0 c.in_ok-seek_name.field-0 c.if-branch.false c.in_ok-seek_name.ensures.read in
    (passed.0, passed.1, passed.2, c.in_ok-seek_name.ensures.kept ∙ here.invariant.3, c.in_ok-seek_name.ensures.kept_paths ∙ here.invariant.4)
