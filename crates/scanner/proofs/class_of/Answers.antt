use mathlib.Core.Path.{sym, ap}
use Rattle.scanner.specs.Classes.{class_of}
use Rattle.scanner.proofs.Classes.{is_digit_lem, is_letter_lem, is_low_lem, is_mid, is_high_lem}
use Rattle.scanner.proofs.class_of.Goals as goal

pub returns-in-40 : goal.returns-in-40
unfolding class_of
returns-in-40 c = sym (ap class_of c.in-40.is)

pub returns-in-41 : goal.returns-in-41
unfolding class_of
returns-in-41 c = sym (ap class_of c.in-41.is)

pub returns-in-32 : goal.returns-in-32
unfolding class_of
returns-in-32 c = sym (ap class_of c.in-32.is)

pub returns-in-45 : goal.returns-in-45
unfolding class_of
returns-in-45 c = sym (ap class_of c.in-45.is)

pub returns-in-10 : goal.returns-in-10
unfolding class_of
returns-in-10 c = sym (ap class_of c.in-10.is)

pub returns-in-48-to-57 : goal.returns-in-48-to-57
returns-in-48-to-57 c = sym (is_digit_lem _ c.in-48-to-57.if-b-lt48-own.false c.in-48-to-57.if-b-lt58-own.true)

pub returns-in-97-to-122 : goal.returns-in-97-to-122
returns-in-97-to-122 c = sym (is_letter_lem _ c.in-97-to-122.if-b-lt97-own.false c.in-97-to-122.if-b-lt123-own.true)

pub returns-in_default : goal.returns-in_default
returns-in_default c =
    let k = c.in_default.in_default-own.rest in
    sym (is_low_lem _ k.0.0.0.0.1 k.0.0.0.1 k.0.0.1 k.0.1 k.1 c.in_default.if-b-lt48-own.true)

pub returns-in_default-2 : goal.returns-in_default-2
returns-in_default-2 c =
    let k = c.in_default.in_default-own.rest in
    sym (is_mid _ k.0.0.0.0.1 k.0.0.0.1 k.0.0.1 k.0.1 k.1 c.in_default.if-b-lt58-own.false c.in_default.if-b-lt97-own.true)

pub returns-in_default-3 : goal.returns-in_default-3
returns-in_default-3 c =
    let k = c.in_default.in_default-own.rest in
    sym (is_high_lem _ k.0.0.0.0.1 k.0.0.0.1 k.0.0.1 k.0.1 k.1 c.in_default.if-b-lt123-own.false)
