use Rattle.std.proofs.Common.{◌∙◌, sym, arith}
use Rattle.csv.specs.Records.{fields_of}
use Rattle.prta_times.proofs.Threes.{three_are, missing}
use Rattle.prta_times.proofs.fields.three_fields.Goals as goal

pub returns-in_default : goal.returns-in_default
returns-in_default c = missing (fields_of c.args.row.now) 0 (omega arith) (sym c.in_default.ensures.value)

pub returns-in_default-get : goal.returns-in_default-get
returns-in_default-get c = missing (fields_of c.args.row.now) 1 (omega arith) (sym c.in_default-get.ensures.value)

pub returns-in_default-get-2 : goal.returns-in_default-get-2
returns-in_default-get-2 c = missing (fields_of c.args.row.now) 2 (omega arith) (sym c.in_default-get-2.ensures.value)

pub returns : goal.returns
returns c =
    three_are (fields_of c.args.row.now) c.in-Some.first.now c.in-Some-get.second.now c.in-Some-get-2.third.now
    (sym c.in-Some.ensures.value) (sym c.in-Some-get.ensures.value) (sym c.in-Some-get-2.ensures.value) (sym c.len.ensures ∙ c.if-len-ne3.false)
