use Rattle.pyver_findings.proofs.named_files.push_named_files.Goals as goal

pub returns : goal.returns
returns c = rw (c.as_slice-2.ensures.value, c.as_slice-3.ensures.value, c.in_ok-lines.ensures, c.as_slice.ensures.value) at c.push_of_lines.ensures
