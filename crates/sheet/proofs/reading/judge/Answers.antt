-- `sheet::reading::judge` meets its contract: line after line. Assumes nothing.
use Rattle.std.proofs.lemmas.Result.{err_from_is_err_and}
use Rattle.maintenance_pages.specs.declared.setting.Setting.TheVariants.{ReceiveId, TransmitId, Speed, Voltage, WarningLevel, FaultLevel}
use Rattle.sheet.proofs.Judging.{start, further, wrong_there, more_after, whole_sheet}
use Rattle.sheet.proofs.reading.judge.Goals as goal

pub returns-in_err-receive : goal.returns-in_err-receive
returns-in_err-receive c =
    let p = err_from_is_err_and c.from_residual.result c.from_residual.ensures.1 in
    rw (p.1, p.2) (wrong_there ReceiveId (start c.args.s.now) c.read_line.ensures c.in_err-receive.ensures.ok_part c.in_err-receive.ensures.value)

pub returns-in_err-transmit : goal.returns-in_err-transmit
returns-in_err-transmit c =
    let p = err_from_is_err_and c.from_residual-in_err-transmit.result c.from_residual-in_err-transmit.ensures.1 in
    rw (p.1, p.2) (wrong_there TransmitId (further ReceiveId (start c.args.s.now) c.read_line.ensures c.in_ok-receive.ensures.ok_part) c.read_line-2.ensures c.in_err-transmit.ensures.ok_part c.in_err-transmit.ensures.value)

pub returns-in_err-speed : goal.returns-in_err-speed
returns-in_err-speed c =
    let p = err_from_is_err_and c.from_residual-in_err-speed.result c.from_residual-in_err-speed.ensures.1 in
    rw (p.1, p.2) (wrong_there Speed (further TransmitId (further ReceiveId (start c.args.s.now) c.read_line.ensures c.in_ok-receive.ensures.ok_part) c.read_line-2.ensures c.in_ok-transmit.ensures.ok_part) c.read_line-3.ensures c.in_err-speed.ensures.ok_part c.in_err-speed.ensures.value)

pub returns-in_err-voltage : goal.returns-in_err-voltage
returns-in_err-voltage c =
    let p = err_from_is_err_and c.from_residual-in_err-voltage.result c.from_residual-in_err-voltage.ensures.1 in
    rw (p.1, p.2) (wrong_there Voltage (further Speed (further TransmitId (further ReceiveId (start c.args.s.now) c.read_line.ensures c.in_ok-receive.ensures.ok_part) c.read_line-2.ensures c.in_ok-transmit.ensures.ok_part) c.read_line-3.ensures c.in_ok-speed.ensures.ok_part) c.read_line-4.ensures c.in_err-voltage.ensures.ok_part c.in_err-voltage.ensures.value)

pub returns-in_err-warning : goal.returns-in_err-warning
returns-in_err-warning c =
    let p = err_from_is_err_and c.from_residual-in_err-warning.result c.from_residual-in_err-warning.ensures.1 in
    rw (p.1, p.2) (wrong_there WarningLevel (further Voltage (further Speed (further TransmitId (further ReceiveId (start c.args.s.now) c.read_line.ensures c.in_ok-receive.ensures.ok_part) c.read_line-2.ensures c.in_ok-transmit.ensures.ok_part) c.read_line-3.ensures c.in_ok-speed.ensures.ok_part) c.read_line-4.ensures c.in_ok-voltage.ensures.ok_part) c.read_line-5.ensures c.in_err-warning.ensures.ok_part c.in_err-warning.ensures.value)

pub returns-in_err-fault : goal.returns-in_err-fault
returns-in_err-fault c =
    let p = err_from_is_err_and c.from_residual-in_err-fault.result c.from_residual-in_err-fault.ensures.1 in
    rw (p.1, p.2) (wrong_there FaultLevel (further WarningLevel (further Voltage (further Speed (further TransmitId (further ReceiveId (start c.args.s.now) c.read_line.ensures c.in_ok-receive.ensures.ok_part) c.read_line-2.ensures c.in_ok-transmit.ensures.ok_part) c.read_line-3.ensures c.in_ok-speed.ensures.ok_part) c.read_line-4.ensures c.in_ok-voltage.ensures.ok_part) c.read_line-5.ensures c.in_ok-warning.ensures.ok_part) c.read_line-6.ensures c.in_err-fault.ensures.ok_part c.in_err-fault.ensures.value)

pub returns-then-fault-s : goal.returns-then-fault-s
returns-then-fault-s c = more_after (further FaultLevel (further WarningLevel (further Voltage (further Speed (further TransmitId (further ReceiveId (start c.args.s.now) c.read_line.ensures c.in_ok-receive.ensures.ok_part) c.read_line-2.ensures c.in_ok-transmit.ensures.ok_part) c.read_line-3.ensures c.in_ok-speed.ensures.ok_part) c.read_line-4.ensures c.in_ok-voltage.ensures.ok_part) c.read_line-5.ensures c.in_ok-warning.ensures.ok_part) c.read_line-6.ensures c.in_ok-fault.ensures.ok_part) c.if-fault-s.true

pub returns : goal.returns
returns c = whole_sheet (further FaultLevel (further WarningLevel (further Voltage (further Speed (further TransmitId (further ReceiveId (start c.args.s.now) c.read_line.ensures c.in_ok-receive.ensures.ok_part) c.read_line-2.ensures c.in_ok-transmit.ensures.ok_part) c.read_line-3.ensures c.in_ok-speed.ensures.ok_part) c.read_line-4.ensures c.in_ok-voltage.ensures.ok_part) c.read_line-5.ensures c.in_ok-warning.ensures.ok_part) c.read_line-6.ensures c.in_ok-fault.ensures.ok_part) c.if-fault-s.false
