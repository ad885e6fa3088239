use Rattle.register_core.proofs.LawLemmas as law
use Rattle.register_core.proofs.laws.phrases_write.Goals as goal

pub returns-clause-words : goal.returns-clause-words
returns-clause-words c = law.phrases_write_words

pub returns-clause-counts : goal.returns-clause-counts
returns-clause-counts c = law.phrases_write_counts

pub returns-clause-bits : goal.returns-clause-bits
returns-clause-bits c = law.phrases_write_bits

pub returns-clause-parts : goal.returns-clause-parts
returns-clause-parts c = law.phrases_write_parts
