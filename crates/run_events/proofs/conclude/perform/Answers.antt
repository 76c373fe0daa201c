-- `perform` is the op's own function, case by case.
use Rattle.run_gates.specs.GatesCode.{after_event}
use Rattle.run_events.proofs.Returns.{event-newq, event-newc, event-gate, event-meas, event-end, event-fault}
use mathlib.Core.Path.{refl, ap₂}
use Rattle.run_events.proofs.conclude.perform.Goals as goal

pub returns-in-NewQ : goal.returns-in-NewQ
returns-in-NewQ c =
    let args = c.args in
    event-newq args.p.now args.w.now args.does args.qubits args.channels args.outcomes.now
    args.used c.read_head-h.ensures c.in-NewQ.is c.op_newq.ensures

pub returns-in-NewC : goal.returns-in-NewC
returns-in-NewC c =
    let args = c.args in
    event-newc args.p.now args.w.now args.does args.qubits args.channels args.outcomes.now
    args.used c.read_head-h.ensures c.in-NewC.is c.op_newc.ensures

pub returns-in-Gate : goal.returns-in-Gate
returns-in-Gate c =
    event-gate c.args.p.now c.args.w.now c.args.does c.args.qubits
    c.args.channels c.args.outcomes.now c.args.used c.read_head-h.ensures
    c.argument.ensures c.in-Gate.is c.op_gate.ensures

pub returns-in-Meas : goal.returns-in-Meas
returns-in-Meas c =
    let args = c.args in
    event-meas args.p.now args.w.now args.does args.qubits args.channels args.outcomes.now
    args.used c.read_head-h.ensures c.in-Meas.is c.op_meas.ensures

pub returns-in-LastRet : goal.returns-in-LastRet
returns-in-LastRet c =
    let args = c.args in
    event-end args.p.now args.w.now args.does args.qubits args.channels args.outcomes.now
    args.used c.in-LastRet.is (ap₂ after_event c.line.ensures refl)

pub returns-in-Fault : goal.returns-in-Fault
returns-in-Fault c =
    let args = c.args in
    event-fault args.p.now args.w.now args.does args.qubits args.channels args.outcomes.now
    args.used _ c.in-Fault.is (ap₂ after_event c.fault.ensures refl)
