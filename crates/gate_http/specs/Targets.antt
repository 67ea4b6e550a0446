-- TARGETS: what a path names, and the method that it takes.
use Rattle.std.specs.Prelude.{ℕ, nat_eq, List, length, drop, Option, Some, None, Result, Ok, Err, codes, if◌then◌else◌}
use Rattle.std.specs.List.{starts_with}
use Rattle.std.specs.Str.{bytes_eq}
use Rattle.gate_text.specs.SmallTexts.{change_no_of}
use Rattle.gate_text.specs.declared.fault.TextFault.{TextFault}
use Rattle.gate_http.specs.declared.target.Report.TheVariants.{Queue, Change}
use Rattle.gate_http.specs.declared.target.Target.{Target as TargetOf}
use Rattle.gate_http.specs.declared.target.Target.TheVariants.{Deliveries, Report as ReportOf}

-- the change of this number, if the text is one
abbrev pub change_read : Result ℕ TextFault → Option TargetOf
change_read (Ok number) = Some (ReportOf (Change number))
change_read (Err fault) = None

abbrev pub change_of : List ℕ → Option TargetOf
change_of text = change_read (change_no_of text)

-- what stands before the number of a change
abbrev pub before_number : List ℕ
before_number = codes "/changes/"

abbrev pub target_of : List ℕ → Option TargetOf
target_of path =
    if bytes_eq path (codes "/deliveries") then Some Deliveries
    else (if bytes_eq path (codes "/queue") then Some (ReportOf Queue)
    else (if starts_with nat_eq path before_number then change_of (drop (length before_number) path)
    else None))

abbrev pub method_of : TargetOf → List ℕ
method_of Deliveries = codes "POST"
method_of (ReportOf report) = codes "GET"
