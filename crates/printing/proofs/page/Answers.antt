-- `printing::page` meets its contract, in each of its four answers (Answered.antt). Assumes nothing.
use mathlib.Core.Path.{refl, sym, ap, ◌∙◌}
use native.Mathlib.Nat.{zero-add}
use native.Mathlib.Omega.{arith}
use borrow.Author.Tests.{leb-true, leb-false}
use lib.ListN.{length}
use Rattle.printing.specs.Page.{page_text, page_length}
use Rattle.printing.specs.Answers.{printed}
use Rattle.printing.proofs.Answered.{few_answer, wide_answer, short_answer, page_answer_lem, refused_bytes, page_bytes}
use Rattle.printing.proofs.page.Goals as goal

pub returns-then-rows-n : goal.returns-then-rows-n
returns-then-rows-n c =
    let s = c.args in
    let e = few_answer s.rows.now s.n (length s.bytes.now) (omega (arith, c.if-rows-n.true)) in
    record {
      answer = sym e;
      bytes = refused_bytes s.rows.now s.n s.bytes.now e refl;
    }

pub returns-then-page_too_wide : goal.returns-then-page_too_wide
returns-then-page_too_wide c =
    let s = c.args in
    let e = wide_answer s.rows.now s.n (length s.bytes.now) (omega (arith, c.if-rows-n.false)) (sym c.page_too_wide.ensures ∙ c.if-page_too_wide.true) in
    record {
      answer = sym e;
      bytes = refused_bytes s.rows.now s.n s.bytes.now e refl;
    }

pub returns-then-not-holds : goal.returns-then-not-holds
returns-then-not-holds c =
    let s = c.args in
    let narrow = sym c.page_too_wide.ensures ∙ c.if-page_too_wide.false in
    let l = leb-false (page_length s.n) (length s.bytes.now) (sym c.holds.ensures ∙ c.if-not-holds.true) in
    let e = short_answer s.rows.now s.n (length s.bytes.now) (omega (arith, c.if-rows-n.false)) narrow l in
    record {
      answer = sym e;
      bytes = refused_bytes s.rows.now s.n s.bytes.now e refl;
    }

pub returns : goal.returns
returns c =
    let s = c.args in
    let narrow = sym c.page_too_wide.ensures ∙ c.if-page_too_wide.false in
    let l = leb-true (page_length s.n) (length s.bytes.now) (sym c.holds.ensures ∙ c.if-not-holds.false) in
    let e = page_answer_lem s.rows.now s.n (length s.bytes.now) (omega (arith, c.if-rows-n.false)) narrow l in
    record {
      answer = ap printed (c.put_page.ensures.position ∙ zero-add (length (page_text s.rows.now s.n))) ∙ sym e;
      bytes = page_bytes s.rows.now s.n s.bytes.now e refl c.put_page.ensures;
    }
