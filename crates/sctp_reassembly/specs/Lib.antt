pub mod reassembly_queue
