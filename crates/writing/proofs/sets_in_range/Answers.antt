-- `writing::sets_in_range` meets its contract. The loop's invariant: the sets so far are in range (GivenSets.antt). Assumes nothing.
use mathlib.Core.Path.{sym}
use mathlib.Core.List.{[]}
use lib.ListN.{get_or}
use Rattle.writing.proofs.GivenSets.{test_begins, tests_on, test_fails, test_ends, tested}
use Rattle.writing.proofs.sets_in_range.Goals as goal

pub loop-words-init : goal.loop-words-init
loop-words-init c = test_begins c.args.sets.now

pub returns-then-not-in_range : goal.returns-then-not-in_range
returns-then-not-in_range c =
    let l = c.loop-words in
    sym (test_fails c.args.sets.now l.words-index l.invariant c.loop-words-test.true (tested (get_or c.args.sets.now l.words-index []) c.storey_of.ensures c.in_range.ensures c.if-not-in_range.true))

pub loop-words-preserved : goal.loop-words-preserved
loop-words-preserved c =
    let l = c.loop-words in
    tests_on c.args.sets.now l.words-index l.invariant c.loop-words-test.true (tested (get_or c.args.sets.now l.words-index []) c.storey_of.ensures c.in_range.ensures c.if-not-in_range.false)

pub returns : goal.returns
returns c = let l = c.loop-words in sym (test_ends c.args.sets.now l.words-index l.invariant c.loop-words-test.false)
