use Rattle.pep440_version.proofs.version.Version.from_parts.Goals as goal

pub returns-clause-value : goal.returns-clause-value
returns-clause-value c = c.from_unpacked.ensures.value

pub returns-clause-memory : goal.returns-clause-memory
returns-clause-memory c = c.from_unpacked.ensures.memory
