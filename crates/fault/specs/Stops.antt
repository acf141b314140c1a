-- Why a program ends before its input does. Assumes nothing.
use Rattle.std.specs.Prelude.{◌≡◌}
use Rattle.std.specs.IoError.{error_kind}
use Rattle.std.specs.declared.io.ErrorKind.TheVariants as kind
use Rattle.fault.specs.declared.ReadError.{ReadError}
use Rattle.fault.specs.declared.ReadError.TheVariants as reading
use Rattle.fault.specs.declared.stop.Stop.{Stop}
use Rattle.fault.specs.declared.stop.Stop.TheVariants.{Failed, Fault, Usage}

-- memory was wanting
abbrev pub OutOfMemory : {R : Type 0} → Stop R → Type 0
OutOfMemory (Failed e) = error_kind e ≡ kind.OutOfMemory
OutOfMemory Usage = ⊥
OutOfMemory (Fault f) = ⊥

-- so a program ends where reading its input failed
abbrev pub StopsFor : {R : Type 0} → ReadError R → Stop R → Type 0
StopsFor reading.Memory stop = OutOfMemory stop
StopsFor (reading.Fault f) stop = stop ≡ Fault f
