use Rattle.std.proofs.Common.{string_bytes}
use Rattle.pep440_pick.proofs.Normal.{same_views}
use Rattle.pyver_documents.proofs.locked_reading.copy_strings.Goals as goal

pub returns : goal.returns
returns c = same_views string_bytes _ _ c.in_ok-clone.ensures.cases.0
