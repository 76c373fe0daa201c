-- `gate_number` asks for each gate's name.
use mathlib.Core.Path.{sym, ◌∙◌}
use lib.Seq.{slice}
use Rattle.text.specs.Tree.{ascii}
use Rattle.text_roles.proofs.Gates.{gate-here, gate-next, gate-none}
use Rattle.text_roles.proofs.gate.gate_number.Goals as goal

pub returns-then-is_word : goal.returns-then-is_word
returns-then-is_word c =
    let x = slice c.args.start c.args.end c.args.text.now in
    gate-here 1 x (ascii "X") _ (sym c.is_word.ensures ∙ c.if-is_word.true)

pub returns-then-is_word-2 : goal.returns-then-is_word-2
returns-then-is_word-2 c =
    let x = slice c.args.start c.args.end c.args.text.now in
    gate-next 1 x (ascii "X") _ (sym c.is_word.ensures ∙ c.if-is_word.false)
    (gate-here 2 x (ascii "Y") _ (sym c.is_word-2.ensures ∙ c.if-is_word-2.true))

pub returns-then-is_word-3 : goal.returns-then-is_word-3
returns-then-is_word-3 c =
    let x = slice c.args.start c.args.end c.args.text.now in
    gate-next 1 x (ascii "X") _ (sym c.is_word.ensures ∙ c.if-is_word.false)
    (gate-next 2 x (ascii "Y") _ (sym c.is_word-2.ensures ∙ c.if-is_word-2.false)
    (gate-here 3 x (ascii "Z") _ (sym c.is_word-3.ensures ∙ c.if-is_word-3.true)))

pub returns-then-is_word-4 : goal.returns-then-is_word-4
returns-then-is_word-4 c =
    let x = slice c.args.start c.args.end c.args.text.now in
    gate-next 1 x (ascii "X") _ (sym c.is_word.ensures ∙ c.if-is_word.false)
    (gate-next 2 x (ascii "Y") _ (sym c.is_word-2.ensures ∙ c.if-is_word-2.false)
    (gate-next 3 x (ascii "Z") _ (sym c.is_word-3.ensures ∙ c.if-is_word-3.false)
    (gate-here 4 x (ascii "H") _ (sym c.is_word-4.ensures ∙ c.if-is_word-4.true))))

pub returns-then-is_word-5 : goal.returns-then-is_word-5
returns-then-is_word-5 c =
    let x = slice c.args.start c.args.end c.args.text.now in
    gate-next 1 x (ascii "X") _ (sym c.is_word.ensures ∙ c.if-is_word.false)
    (gate-next 2 x (ascii "Y") _ (sym c.is_word-2.ensures ∙ c.if-is_word-2.false)
    (gate-next 3 x (ascii "Z") _ (sym c.is_word-3.ensures ∙ c.if-is_word-3.false)
    (gate-next 4 x (ascii "H") _ (sym c.is_word-4.ensures ∙ c.if-is_word-4.false)
    (gate-here 5 x (ascii "S") _ (sym c.is_word-5.ensures ∙ c.if-is_word-5.true)))))

pub returns-then-is_word-6 : goal.returns-then-is_word-6
returns-then-is_word-6 c =
    let x = slice c.args.start c.args.end c.args.text.now in
    gate-next 1 x (ascii "X") _ (sym c.is_word.ensures ∙ c.if-is_word.false)
    (gate-next 2 x (ascii "Y") _ (sym c.is_word-2.ensures ∙ c.if-is_word-2.false)
    (gate-next 3 x (ascii "Z") _ (sym c.is_word-3.ensures ∙ c.if-is_word-3.false)
    (gate-next 4 x (ascii "H") _ (sym c.is_word-4.ensures ∙ c.if-is_word-4.false)
    (gate-next 5 x (ascii "S") _ (sym c.is_word-5.ensures ∙ c.if-is_word-5.false)
    (gate-here 6 x (ascii "CX") _ (sym c.is_word-6.ensures ∙ c.if-is_word-6.true))))))

pub returns-then-is_word-7 : goal.returns-then-is_word-7
returns-then-is_word-7 c =
    let x = slice c.args.start c.args.end c.args.text.now in
    gate-next 1 x (ascii "X") _ (sym c.is_word.ensures ∙ c.if-is_word.false)
    (gate-next 2 x (ascii "Y") _ (sym c.is_word-2.ensures ∙ c.if-is_word-2.false)
    (gate-next 3 x (ascii "Z") _ (sym c.is_word-3.ensures ∙ c.if-is_word-3.false)
    (gate-next 4 x (ascii "H") _ (sym c.is_word-4.ensures ∙ c.if-is_word-4.false)
    (gate-next 5 x (ascii "S") _ (sym c.is_word-5.ensures ∙ c.if-is_word-5.false)
    (gate-next 6 x (ascii "CX") _ (sym c.is_word-6.ensures ∙ c.if-is_word-6.false)
    (gate-here 7 x (ascii "CZ") _ (sym c.is_word-7.ensures ∙ c.if-is_word-7.true)))))))

pub returns-then-is_word-8 : goal.returns-then-is_word-8
returns-then-is_word-8 c =
    let x = slice c.args.start c.args.end c.args.text.now in
    gate-next 1 x (ascii "X") _ (sym c.is_word.ensures ∙ c.if-is_word.false)
    (gate-next 2 x (ascii "Y") _ (sym c.is_word-2.ensures ∙ c.if-is_word-2.false)
    (gate-next 3 x (ascii "Z") _ (sym c.is_word-3.ensures ∙ c.if-is_word-3.false)
    (gate-next 4 x (ascii "H") _ (sym c.is_word-4.ensures ∙ c.if-is_word-4.false)
    (gate-next 5 x (ascii "S") _ (sym c.is_word-5.ensures ∙ c.if-is_word-5.false)
    (gate-next 6 x (ascii "CX") _ (sym c.is_word-6.ensures ∙ c.if-is_word-6.false)
    (gate-next 7 x (ascii "CZ") _ (sym c.is_word-7.ensures ∙ c.if-is_word-7.false)
    (gate-here 8 x (ascii "SWAP") _ (sym c.is_word-8.ensures ∙ c.if-is_word-8.true))))))))

pub returns : goal.returns
returns c =
    let x = slice c.args.start c.args.end c.args.text.now in
    gate-next 1 x (ascii "X") _ (sym c.is_word.ensures ∙ c.if-is_word.false)
    (gate-next 2 x (ascii "Y") _ (sym c.is_word-2.ensures ∙ c.if-is_word-2.false)
    (gate-next 3 x (ascii "Z") _ (sym c.is_word-3.ensures ∙ c.if-is_word-3.false)
    (gate-next 4 x (ascii "H") _ (sym c.is_word-4.ensures ∙ c.if-is_word-4.false)
    (gate-next 5 x (ascii "S") _ (sym c.is_word-5.ensures ∙ c.if-is_word-5.false)
    (gate-next 6 x (ascii "CX") _ (sym c.is_word-6.ensures ∙ c.if-is_word-6.false)
    (gate-next 7 x (ascii "CZ") _ (sym c.is_word-7.ensures ∙ c.if-is_word-7.false)
    (gate-next 8 x (ascii "SWAP") _ (sym c.is_word-8.ensures ∙ c.if-is_word-8.false)
    (gate-none 9 x))))))))
