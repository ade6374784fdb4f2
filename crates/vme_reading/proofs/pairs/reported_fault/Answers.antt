use Rattle.vme_reading.proofs.pairs.reported_fault.Goals as goal

pub returns-in-Ok : goal.returns-in-Ok
returns-in-Ok g c = λ from v es t h meets.
    let whole = c.in-Ok.ensures.whole from v es h in (meets, v, whole.0, whole.1)

pub returns-in-Err : goal.returns-in-Err
returns-in-Err g c = λ from v es t h meets. c.in-Err.ensures.fault from v es h
