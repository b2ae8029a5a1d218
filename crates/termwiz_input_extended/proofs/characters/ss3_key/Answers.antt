use Rattle.std.proofs.Common.{◌+◌, ◌-◌, get_or, arith}
use Rattle.termwiz_keys.specs.Keys.{key_with, NONE}
use Rattle.termwiz_keys.specs.declared.types.KeyCode.TheVariants.{ApplicationUpArrow, ApplicationDownArrow, ApplicationRightArrow, ApplicationLeftArrow, End, Function, Home}
use Rattle.termwiz_input_extended.proofs.lemmas.fronts.Ss3Keys.{down_row, end_row, function_row, home_row, is_ss3_key, left_row, right_row, up_row}
use Rattle.termwiz_input_extended.proofs.characters.ss3_key.Goals as goal

pub returns-in-27 : goal.returns-in-27
returns-in-27 c =
    is_ss3_key c.args.text.now 65 (key_with ApplicationUpArrow NONE) (omega arith) (omega arith) (omega arith) (omega arith) (omega arith) up_row

pub returns-in-27-2 : goal.returns-in-27-2
returns-in-27-2 c =
    is_ss3_key c.args.text.now 66 (key_with ApplicationDownArrow NONE) (omega arith) (omega arith) (omega arith) (omega arith) (omega arith) down_row

pub returns-in-27-3 : goal.returns-in-27-3
returns-in-27-3 c =
    is_ss3_key c.args.text.now 67 (key_with ApplicationRightArrow NONE) (omega arith) (omega arith) (omega arith) (omega arith) (omega arith) right_row

pub returns-in-27-4 : goal.returns-in-27-4
returns-in-27-4 c =
    is_ss3_key c.args.text.now 68 (key_with ApplicationLeftArrow NONE) (omega arith) (omega arith) (omega arith) (omega arith) (omega arith) left_row

pub returns-in-27-5 : goal.returns-in-27-5
returns-in-27-5 c =
    is_ss3_key c.args.text.now 70 (key_with End NONE) (omega arith) (omega arith) (omega arith) (omega arith) (omega arith) end_row

pub returns-in-27-6 : goal.returns-in-27-6
returns-in-27-6 c =
    is_ss3_key c.args.text.now 72 (key_with Home NONE) (omega arith) (omega arith) (omega arith) (omega arith) (omega arith) home_row

pub returns-in-27-7 : goal.returns-in-27-7
returns-in-27-7 c =
    let n = get_or c.args.text.now 2 0 - 79 in
    is_ss3_key c.args.text.now (79 + n) (key_with (Function n) NONE) (omega arith) (omega arith) (omega arith) (omega arith) (omega arith)
    (function_row n (omega arith) (omega arith))
