use Rattle.std.proofs.Common.{◌≡◌, ◌∙◌, IfOk, ap, map, option_map, string_bytes, subst}
use Rattle.std.specs.List.{flat_map}
use Rattle.toml.specs.Data.{get_member}
use Rattle.toml.specs.View.{table_view, view}
use Rattle.pyver_locks.specs.LockContents.{contents_of, fault_of, parts_of}
use Rattle.pyver_locks.specs.LockedFiles.{array_faults, counted_names}
use Rattle.pyver_locks.specs.Locks.{contents, lock_parts, numbered_tables, table_contents}
use Rattle.pyver_projects.specs.ProjectStrings.{header_lines, listed, indexed_names}
use Rattle.pyver_locks.proofs.toml_lock.toml_contents.Goals as goal

pub returns : goal.returns
returns c =
    let kind = c.args.kind in
    let packages = listed (get_member c.args.key.now (table_view c.args.document.now)) in
    let tables : map view c.items-tables.result.now ≡ packages = c.items-tables.ensures ∙ ap listed c.top-found.ensures in
    let lines : c.as_slice-2.result.now ≡ header_lines c.args.header.now c.args.text.now =
    c.as_slice-2.ensures.value ∙ c.in_ok-lines.ensures ∙ (λ i. header_lines (c.as_bytes.ensures.value i) (c.as_bytes-2.ensures.value i)) in
    let names : indexed_names c.in_ok-new.field-0 ≡ flat_map (counted_names kind) packages =
    c.in_ok-new.ensures.names ∙ ap (map (λ n. n.items)) c.as_slice.ensures.value ∙ c.in_ok-names.ensures ∙ ap (flat_map (counted_names kind)) tables in
    let faults : map fault_of c.in_ok-faults.faults.items ≡ array_faults c.args.text.now c.args.key.now (get_member c.args.key.now (table_view c.args.document.now)) =
    c.in_ok-faults.ensures ∙ ap (array_faults c.args.text.now c.args.key.now) c.top-found.ensures in
    let parts : parts_of c.in_ok-parts.parts ≡ lock_parts kind (table_view c.args.document.now) packages =
    c.in_ok-parts.ensures ∙ ap (lock_parts kind (table_view c.args.document.now)) tables in
    let same : table_contents kind (parts_of c.in_ok-parts.parts) (map fault_of c.in_ok-faults.faults.items) c.has_markers.result (option_map string_bytes c.in_ok-python.python) (indexed_names c.in_ok-new.field-0) (numbered_tables c.as_slice-2.result.now 0 (map view c.items-tables.result.now))
    ≡ contents kind c.args.header.now c.args.text.now c.args.key.now (table_view c.args.document.now) =
    λ i. table_contents kind (parts i) (faults i) (c.has_markers.ensures i) (c.in_ok-python.ensures i) (names i) (numbered_tables (lines i) 0 (tables i)) in
    subst (λ l. IfOk c.read_tables.result (λ found. contents_of found ≡ l)) same c.read_tables.ensures
