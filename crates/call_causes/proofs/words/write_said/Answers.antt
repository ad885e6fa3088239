use Rattle.std.proofs.Common.{◌∙◌, ◌++◌, [], codes, decimal, ap, sym}
use Rattle.call_causes.specs.Causes.{next_words, said_words}
use Rattle.call_causes.proofs.Writes.{joined, joined_twice, nothing_written, written_as}
use Rattle.call_causes.proofs.words.write_said.Goals as goal

pub returns-in-Words : goal.returns-in-Words
returns-in-Words c = written_as _ _ (c.write.ensures.written [] _ (nothing_written c.args.slots.now)) (ap said_words (sym c.in-Words.is))

pub returns-in-One : goal.returns-in-One
returns-in-One c = written_as _ _ (c.write_number.ensures.written _ _ (c.write-end.ensures.written [] _ (nothing_written c.args.slots.now))) (ap said_words (sym c.in-One.is))

pub returns-in-Two : goal.returns-in-Two
returns-in-Two c =
    let s = c.in-Two in
    written_as _ _ (c.write_number-in-Two.ensures.written _ _ (c.write_number-end.ensures.written _ _ (c.write-end-in-Two.ensures.written [] _ (nothing_written c.args.slots.now))))
    (joined s.a.now (decimal s.n) s.b.now (decimal s.m ++ s.c.now) ∙ ap said_words (sym s.is))

pub returns-in-Three : goal.returns-in-Three
returns-in-Three c =
    let s = c.in-Three in
    let two = c.write_number-end-in-Three.ensures.written _ _ (c.write-end-in-Three.ensures.written [] _ (nothing_written c.args.slots.now)) in
    written_as _ _ (c.write_number-in-Three.ensures.written _ _ (c.write_number-end-in-Three-2.ensures.written _ _ two))
    (joined_twice s.a.now (decimal s.n) s.b.now (decimal s.m) s.c.now (decimal s.k ++ s.d.now) ∙ ap said_words (sym s.is))

pub returns-in-Lost : goal.returns-in-Lost
returns-in-Lost c =
    let s = c.in-Lost in
    written_as _ _ (c.write_next.ensures.written _ _ (c.write_number-end-in-Lost.ensures.written _ _ (c.write-end-in-Lost.ensures.written [] _ (nothing_written c.args.slots.now))))
    (joined s.a.now (decimal s.n) (codes " was not inside; ") (next_words s.next.0) ∙ ap said_words (sym s.is))

pub returns-in-Again : goal.returns-in-Again
returns-in-Again c =
    let s = c.in-Again in
    let two = c.write_number-end-in-Again.ensures.written _ _ (c.write-end-in-Again.ensures.written [] _ (nothing_written c.args.slots.now)) in
    written_as _ _ (c.write_next-in-Again.ensures.written _ _ (c.write_number-end-in-Again-2.ensures.written _ _ two))
    (joined_twice s.a.now (decimal s.n) s.b.now (decimal s.m) (codes "; ") (next_words s.next.0) ∙ ap said_words (sym s.is))
