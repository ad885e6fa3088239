use Rattle.ring_core.proofs.LawLemmas as law
use Rattle.ring_core.proofs.laws.puts_go_on.Goals as goal

pub returns-clause-between : goal.returns-clause-between
returns-clause-between c = law.puts_go_on_between

pub returns-clause-scans : goal.returns-clause-scans
returns-clause-scans c = law.puts_go_on_scans

pub returns-clause-words : goal.returns-clause-words
returns-clause-words c = law.puts_go_on_words

pub returns-clause-digits : goal.returns-clause-digits
returns-clause-digits c = law.puts_go_on_digits

pub returns-clause-counts : goal.returns-clause-counts
returns-clause-counts c = law.puts_go_on_counts
