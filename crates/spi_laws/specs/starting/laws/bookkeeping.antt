pub mod RanState
