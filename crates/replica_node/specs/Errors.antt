-- Which error a handling answers.
use Rattle.std.specs.Prelude.{Bool, true, false, Result, Ok, Err}
use Rattle.replica_node.specs.declared.error.NodeError.{NodeError}
use Rattle.replica_node.specs.declared.error.NodeError.TheVariants.{Device, NoMemory}

abbrev pub is_device_of_node : NodeError → Bool
is_device_of_node Device = true
is_device_of_node NoMemory = false

-- the answer says that the device failed
abbrev pub says_device : {T : Type 0} → Result T NodeError → Bool
says_device (Ok value) = false
says_device (Err error) = is_device_of_node error

abbrev pub is_err : {T : Type 0} → Result T NodeError → Bool
is_err (Ok value) = false
is_err (Err error) = true
