-- The TRB types, xHCI 1.2 table 6-91.
use Rattle.std.specs.Prelude.{ℕ}

-- on a transfer ring; a Link also stands on the command ring
abbrev pub normal : ℕ
normal = 1

abbrev pub setup_stage : ℕ
setup_stage = 2

abbrev pub data_stage : ℕ
data_stage = 3

abbrev pub status_stage : ℕ
status_stage = 4

abbrev pub isoch : ℕ
isoch = 5

abbrev pub link : ℕ
link = 6

abbrev pub event_data : ℕ
event_data = 7

abbrev pub no_op : ℕ
no_op = 8

-- on the command ring
abbrev pub enable_slot : ℕ
enable_slot = 9

abbrev pub disable_slot : ℕ
disable_slot = 10

abbrev pub address_device : ℕ
address_device = 11

abbrev pub configure_endpoint : ℕ
configure_endpoint = 12

abbrev pub evaluate_context : ℕ
evaluate_context = 13

abbrev pub reset_endpoint : ℕ
reset_endpoint = 14

abbrev pub stop_endpoint : ℕ
stop_endpoint = 15

abbrev pub set_tr_dequeue_pointer : ℕ
set_tr_dequeue_pointer = 16

abbrev pub reset_device : ℕ
reset_device = 17

abbrev pub force_event : ℕ
force_event = 18

abbrev pub negotiate_bandwidth : ℕ
negotiate_bandwidth = 19

abbrev pub set_latency_tolerance_value : ℕ
set_latency_tolerance_value = 20

abbrev pub get_port_bandwidth : ℕ
get_port_bandwidth = 21

abbrev pub force_header : ℕ
force_header = 22

abbrev pub no_op_command : ℕ
no_op_command = 23

-- on an event ring
abbrev pub transfer_event : ℕ
transfer_event = 32

abbrev pub command_completion_event : ℕ
command_completion_event = 33

abbrev pub port_status_change_event : ℕ
port_status_change_event = 34
