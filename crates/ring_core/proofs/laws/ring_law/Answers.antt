use Rattle.ring_core.proofs.LawLemmas as law
use Rattle.ring_core.proofs.laws.ring_law.Goals as goal

pub returns-clause-within : goal.returns-clause-within
returns-clause-within c = law.ring_law_within

pub returns-clause-put_range : goal.returns-clause-put_range
returns-clause-put_range c = law.ring_law_put_range

pub returns-clause-take_range : goal.returns-clause-take_range
returns-clause-take_range c = law.ring_law_take_range

pub returns-clause-words : goal.returns-clause-words
returns-clause-words c = law.ring_law_words

pub returns-clause-cells : goal.returns-clause-cells
returns-clause-cells c = law.ring_law_cells

pub returns-clause-prefix : goal.returns-clause-prefix
returns-clause-prefix c = law.ring_law_prefix

pub returns-clause-items : goal.returns-clause-items
returns-clause-items c = law.ring_law_items

pub returns-clause-empty : goal.returns-clause-empty
returns-clause-empty c = law.ring_law_empty

pub returns-clause-full : goal.returns-clause-full
returns-clause-full c = law.ring_law_full

pub returns-clause-fill : goal.returns-clause-fill
returns-clause-fill c = law.ring_law_fill

pub returns-clause-drain : goal.returns-clause-drain
returns-clause-drain c = law.ring_law_drain

pub returns-clause-closed : goal.returns-clause-closed
returns-clause-closed c = law.ring_law_closed
