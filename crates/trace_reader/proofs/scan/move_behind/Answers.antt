use Rattle.trace_reader.proofs.scan.move_behind.Goals as goal

pub returns-in-108 : goal.returns-in-108
returns-in-108 c = rw c.in-108.is c.load.ensures

pub returns-in-115 : goal.returns-in-115
returns-in-115 c = rw c.in-115.is c.store.ensures

pub returns-in-114 : goal.returns-in-114
returns-in-114 c = rw c.in-114.is c.read.ensures

pub returns-in-119 : goal.returns-in-119
returns-in-119 c = rw c.in-119.is c.write.ensures

pub returns-in-109 : goal.returns-in-109
returns-in-109 c = rw c.in-109.is c.mask.ensures

pub returns-in-117 : goal.returns-in-117
returns-in-117 c = rw c.in-117.is c.unmask.ensures
