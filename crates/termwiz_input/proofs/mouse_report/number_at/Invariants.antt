use Rattle.std.proofs.Common.{◌≡◌, ◌≤◌, take}
use Rattle.std.specs.List.{AllByRecursion}
use Rattle.termwiz_grammar.specs.MouseReports.{IsDigit, value_of}
use Rattle.termwiz_input.proofs.mouse_report.number_at.Given as goal

abbrev pub invariant-loop-count : goal.invariant-loop-count
invariant-loop-count l = record {
  digits : AllByRecursion IsDigit (take l.count l.text);
  few : l.count ≤ 5;
  value_is : l.value ≡ value_of (take l.count l.text);
  within : l.value ≤ l.limit;
}
